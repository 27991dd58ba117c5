-- The items of a text, one after another.
use Rattle.std.proofs.Common.{◌≡◌, ℕ, List, [], ◌∷◌, ◌++◌, Result, Ok, Err, refl, ap, ◌∙◌}
use Rattle.dm_grammar.specs.declared.reading.Reading.{Reading}
use Rattle.dm_grammar.specs.declared.fault.ItemFault.{ItemFault}
use Rattle.dm_grammar.specs.declared.fault.ItemFault.TheVariants.{Syntax, NoMemory}
use Rattle.dm_grammar.specs.Tokens.{Word}
use Rattle.dm_grammar.specs.Places.GrammarPlace.{Text}
use Rattle.dm_grammar.specs.Items.{Written}
use Rattle.dm_grammar.specs.Readers.{adding_item, IfSyntax}
use Rattle.dm_grammar.specs.Told.{Gathered, none_gathered, items_told, collect}

abbrev pub with_items : List Written → Result Gathered ℕ → Result Gathered ℕ
with_items [] r = r
with_items (i ∷ is) r = adding_item i (with_items is r)

-- one more item at the end
pub with_items-push : (is : List Written) (i : Written) (r : Result Gathered ℕ)
    → with_items (is ++ i ∷ []) r ≡ with_items is (adding_item i r)
with_items-push [] i r = refl
with_items-push (j ∷ is) i r = ap (adding_item j) (with_items-push is i r)

with_items-err : (is : List Written) (r : Result Gathered ℕ) (line : ℕ) → r ≡ Err line → with_items is r ≡ Err line
with_items-err [] r line h = h
with_items-err (i ∷ is) r line h = ap (adding_item i) (with_items-err is r line h)

pub with_items-fault : (is : List Written) (r : Result Gathered ℕ) (line : ℕ) → r ≡ Err line
    → items_told (with_items is r) ≡ Err line
with_items-fault is r line h = ap items_told (with_items-err is r line h)

with_items-ok : (is : List Written) → with_items is (Ok none_gathered) ≡ Ok (record none_gathered { items = is })
with_items-ok [] = refl
with_items-ok (i ∷ is) = ap (adding_item i) (with_items-ok is)

-- at the end of the text
pub with_items-end : (is : List Written) → items_told (with_items is (Ok none_gathered)) ≡ Ok is
with_items-end is = ap items_told (with_items-ok is)

-- a fault of what is left is one of the text
pub fault_through : (is : List Written) (all r : Result Gathered ℕ) (fault : ItemFault) → all ≡ with_items is r
    → IfSyntax fault (λ line. r ≡ Err line) → IfSyntax fault (λ line. items_told all ≡ Err line)
fault_through is all r (Syntax line) e h = ap items_told e ∙ with_items-fault is r line h
fault_through is all r NoMemory e h = tt

-- where nothing is left the items are all
pub all_read : (how : Reading) (is : List Written) (all : Result Gathered ℕ) (ws : List Word) → ws ≡ []
    → all ≡ with_items is (collect how Text ws) → items_told all ≡ Ok is
all_read how is all ws n e =
    ap items_told (e ∙ ap (λ (ws : List Word). with_items is (collect how Text ws)) n) ∙ with_items-end is
