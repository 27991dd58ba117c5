-- The values of a list, one after another.
use Rattle.std.proofs.Common.{◌≡◌, ℕ, List, [], ◌∷◌, ◌++◌, Result, Ok, Err, IfOk, refl, true, ap, ◌∙◌}
use Rattle.dm_grammar.specs.declared.reading.Reading.{Reading}
use Rattle.dm_grammar.specs.declared.symbol.Symbol.TheVariants as symbols
use Rattle.dm_grammar.specs.declared.terminal.Terminal.TheVariants.{One}
use Rattle.dm_grammar.specs.Tokens.{Word}
use Rattle.dm_grammar.specs.Grammar.{fits}
use Rattle.dm_grammar.specs.Items.{ValueParts}
use Rattle.dm_grammar.specs.Places.GrammarPlace.{Text, ListOpen, ValueEnd}
use Rattle.dm_grammar.specs.Places.TokenRole.{ValueIs, CodeIs}
use Rattle.dm_grammar.specs.Readers.{adding_value, with_values}
use Rattle.dm_grammar.specs.Told.{Gathered, filled, collect}
use Rattle.dm_grammar.proofs.Heads.{fits_one, nothing_told}
use Rattle.dm_grammar.proofs.Plain.{IsPlain, plain}

-- `,` before another value, and `}` behind the last
pub value_comma : (how : Reading) (w : Word) (all ws : List Word) → all ≡ w ∷ ws
    → fits (One symbols.Comma) w.symbol ≡ true
    → collect how ValueEnd all ≡ collect how ListOpen ws
value_comma how w all ws e h = rw (e, collect, h) (nothing_told w (collect how ListOpen ws))

pub value_close : (how : Reading) (w : Word) (all ws : List Word) → all ≡ w ∷ ws
    → fits (One symbols.CloseBrace) w.symbol ≡ true → collect how ValueEnd all ≡ collect how Text ws
value_close how w all ws e h =
    let no = fits_one symbols.CloseBrace symbols.Comma w.symbol refl h in
    rw (e, collect, no, h) (nothing_told w (collect how Text ws))

pub value_told : (n c : Word) (r : Result Gathered ℕ)
    → filled ValueIs n (filled CodeIs c r) ≡ adding_value (record { name = n; number = c }) r
value_told n c (Ok told) = refl
value_told n c (Err line) = refl

abbrev pub with_each : List ValueParts → Result Gathered ℕ → Result Gathered ℕ
with_each [] r = r
with_each (x ∷ xs) r = adding_value x (with_each xs r)

-- one more value at the end
pub with_each-push : (xs : List ValueParts) (x : ValueParts) (r : Result Gathered ℕ)
    → with_each (xs ++ x ∷ []) r ≡ with_each xs (adding_value x r)
with_each-push [] x r = refl
with_each-push (y ∷ xs) x r = ap (adding_value y) (with_each-push xs x r)

pub with_each-fault : (xs : List ValueParts) (r : Result Gathered ℕ) (line : ℕ) → r ≡ Err line → with_each xs r ≡ Err line
with_each-fault [] r line h = h
with_each-fault (x ∷ xs) r line h = ap (adding_value x) (with_each-fault xs r line h)

no_values : (r : Result Gathered ℕ) → IfOk r IsPlain → r ≡ with_values [] r
no_values (Ok told) h = ap Ok h
no_values (Err line) h = refl

more_values : (x : ValueParts) (xs : List ValueParts) (r : Result Gathered ℕ)
    → adding_value x (with_values xs r) ≡ with_values (x ∷ xs) r
more_values x xs (Ok told) = refl
more_values x xs (Err line) = refl

with_each-values : (xs : List ValueParts) (r : Result Gathered ℕ) → IfOk r IsPlain → with_each xs r ≡ with_values xs r
with_each-values [] r h = no_values r h
with_each-values (x ∷ xs) r h = ap (adding_value x) (with_each-values xs r h) ∙ more_values x xs r

-- all values, before an item
pub values_read : (how : Reading) (xs : List ValueParts) (ws : List Word)
    → with_each xs (collect how Text ws) ≡ with_values xs (collect how Text ws)
values_read how xs ws = with_each-values xs (collect how Text ws) (plain how ws)
