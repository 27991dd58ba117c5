-- Where an entry of a rule ends and an item begins.
use Rattle.std.proofs.Common.{◌≡◌, ℕ, List, [], ◌∷◌, drop, Result, Ok, Err, IfOk, refl, Bool, true, false, not, ◌&&◌, ap, sym, ◌∙◌}
use Rattle.dm_grammar.specs.declared.reading.Reading.{Reading}
use Rattle.std.proofs.lemmas.Bool.{and_parts}
use Rattle.dm_grammar.specs.declared.symbol.Symbol.{Symbol}
use Rattle.dm_grammar.specs.declared.symbol.Symbol.TheVariants as symbols
use Rattle.dm_grammar.specs.declared.item.Form.TheVariants.{Fixed}
use Rattle.dm_grammar.specs.declared.terminal.Terminal.{Terminal}
use Rattle.dm_grammar.specs.declared.terminal.Terminal.TheVariants.{AnyName, One}
use Rattle.dm_grammar.specs.Tokens.{Word}
use Rattle.dm_grammar.specs.Grammar.{fits, is_name_symbol, steps_from, by}
use Rattle.dm_grammar.specs.Places.{GrammarPlace, TokenRole}
use Rattle.dm_grammar.specs.Places.GrammarPlace.{Text, AtSign, TitleLess, TitleName, Titled, Defined, InRule, Low, Starred, High, Angle, AngleName, Closed, FixedOpen, FixedName, BraceOpen, SquareOpen}
use Rattle.dm_grammar.specs.Places.TokenRole.{NoPart, BeginsItem, OpensEntry, EntryIs, StarIs, LowIs, TitleIs, TitleOrFixed, DefineIs}
use Rattle.dm_grammar.specs.Readers.{begins_with, begins_entry}
use Rattle.dm_grammar.specs.Told.{Gathered, filled, collect}
use Rattle.dm_grammar.proofs.Plain.{word}

-- from a place with one step
pub one_step : (how : Reading) (p q : GrammarPlace) (r : TokenRole) (t : Terminal) (w : Word) (ws : List Word)
    → steps_from how.version p ≡ by t q r
    → fits t w.symbol ≡ true → collect how p (w ∷ ws) ≡ filled r w (collect how q ws)
one_step how p q r t w ws e h = rw (collect, e, h) refl

abbrev Untitled : Gathered → Type 0
Untitled told = told.titled ≡ false

by_begins : (w : Word) (r : Result Gathered ℕ) → IfOk (filled BeginsItem w r) Untitled
by_begins w (Ok told) = refl
by_begins w (Err line) = tt

by_title : (w : Word) (r : Result Gathered ℕ) → IfOk (filled TitleIs w r) Untitled
by_title w (Ok told) = refl
by_title w (Err line) = tt

by_opens : (w : Word) (r : Result Gathered ℕ) → IfOk (filled OpensEntry w r) Untitled
by_opens w (Ok told) = refl
by_opens w (Err line) = tt

by_low : (w : Word) (r : Result Gathered ℕ) → IfOk (filled LowIs w r) Untitled
by_low w (Ok told) = refl
by_low w (Err line) = tt

by_star : (w : Word) (r : Result Gathered ℕ) → IfOk (filled StarIs w r) Untitled
by_star w (Ok told) = refl
by_star w (Err line) = tt

untitled_from : (s : Symbol) (text : List ℕ) (line : ℕ) (how : Reading) (ws : List Word)
    → IfOk (collect how InRule (word s text line ∷ ws)) Untitled
untitled_from symbols.At text line how ws = by_begins (word symbols.At text line) (collect how AtSign ws)
untitled_from symbols.Name text line how ws = by_title (word symbols.Name text line) (collect how Titled ws)
untitled_from symbols.Diameter text line how ws = by_title (word symbols.Diameter text line) (collect how Titled ws)
untitled_from symbols.Header text line how ws = by_title (word symbols.Header text line) (collect how Titled ws)
untitled_from symbols.DiameterHeader text line how ws =
    by_title (word symbols.DiameterHeader text line) (collect how Titled ws)
untitled_from symbols.Avp text line how ws = by_title (word symbols.Avp text line) (collect how Titled ws)
untitled_from symbols.AvpHeader text line how ws = by_title (word symbols.AvpHeader text line) (collect how Titled ws)
untitled_from symbols.Req text line how ws = by_title (word symbols.Req text line) (collect how Titled ws)
untitled_from symbols.Pxy text line how ws = by_title (word symbols.Pxy text line) (collect how Titled ws)
untitled_from symbols.Vendor text line how ws = by_title (word symbols.Vendor text line) (collect how Titled ws)
untitled_from symbols.Enumerated text line how ws = by_title (word symbols.Enumerated text line) (collect how Titled ws)
untitled_from symbols.Err text line how ws = by_title (word symbols.Err text line) (collect how Titled ws)
untitled_from symbols.Less text line how ws = by_opens (word symbols.Less text line) (collect how Angle ws)
untitled_from symbols.OpenBrace text line how ws =
    by_opens (word symbols.OpenBrace text line) (collect how BraceOpen ws)
untitled_from symbols.OpenSquare text line how ws =
    by_opens (word symbols.OpenSquare text line) (collect how SquareOpen ws)
untitled_from symbols.Number text line how ws = by_low (word symbols.Number text line) (collect how Low ws)
untitled_from symbols.Star text line how ws = by_star (word symbols.Star text line) (collect how Starred ws)
untitled_from _ text line how ws = tt

-- no title is begun where an entry may begin
pub untitled : (how : Reading) (ws : List Word) → IfOk (collect how InRule ws) Untitled
untitled how [] = refl
untitled how (w ∷ ws) = untitled_from w.symbol w.text w.line how ws

-- without `::=` a name in `<` and `>` is an entry
closed_rule : (how : Reading) (ws : List Word) → begins_with (One symbols.Define) ws ≡ false
    → collect how Closed ws ≡ collect how InRule ws
closed_rule how [] h = refl
closed_rule how (w ∷ ws) h = rw (collect, h) refl

fixed_told : (o n g : Word) (r : Result Gathered ℕ) → IfOk r Untitled
    → filled OpensEntry o (filled TitleOrFixed n (filled NoPart g r)) ≡ filled OpensEntry o
    (filled (EntryIs Fixed) n (filled NoPart g r))
fixed_told o n g (Ok told) h = rw h refl
fixed_told o n g (Err line) h = refl

fixed_closed : (b : Bool) (o n g : Word) (how : Reading) (ws : List Word) → fits (One symbols.Greater) g.symbol ≡ b
    → (b ≡ true → begins_with (One symbols.Define) ws ≡ false) →
    filled OpensEntry o (filled TitleOrFixed n (collect how AngleName (g ∷ ws))) ≡ filled OpensEntry o
    (filled (EntryIs Fixed) n (collect how FixedName (g ∷ ws)))
fixed_closed true o n g how ws e h =
    rw (collect, e) (rw (closed_rule how ws (h refl)) (fixed_told o n g (collect how InRule ws) (untitled how ws)))
fixed_closed false o n g how ws e h = rw (collect, e) refl

fixed_named : (b : Bool) (o n : Word) (how : Reading) (ws : List Word) → is_name_symbol n.symbol ≡ b
    → (b ≡ true → (begins_with (One symbols.Greater) ws && begins_with (One symbols.Define) (drop 1 ws)) ≡ false) →
    filled OpensEntry o (collect how Angle (n ∷ ws)) ≡ filled OpensEntry o (collect how FixedOpen (n ∷ ws))
fixed_named true o n how [] e h = rw (collect, e) refl
fixed_named true o n how (g ∷ ws) e h =
    rw (collect, e) (fixed_closed (fits (One symbols.Greater) g.symbol) o n g how ws refl (λ t. rw t at (h refl)))
fixed_named false o n how ws e h = rw (collect, e) refl

fixed_entry : (text : List ℕ) (line : ℕ) (how : Reading) (ws : List Word)
    → (begins_with AnyName ws && begins_with (One symbols.Greater) (drop 1 ws) && begins_with (One symbols.Define) (drop 2 ws))
    ≡ false → collect how InRule (word symbols.Less text line ∷ ws) ≡ collect how High
    (word symbols.Less text line ∷ ws)
fixed_entry text line how [] h = refl
fixed_entry text line how (n ∷ ws) h =
    fixed_named (is_name_symbol n.symbol) (word symbols.Less text line) n how ws refl (λ t. rw t at h)

no_title : (b : Bool) → not b ≡ true → b ≡ false
no_title true h = absurd cc
no_title false h = refl

is_title : (b : Bool) → not b ≡ false → b ≡ true
is_title true h = refl
is_title false h = absurd cc

rule_bracket_from : (s : Symbol) (text : List ℕ) (line : ℕ) (how : Reading) (ws : List Word)
    → begins_entry (word s text line ∷ ws) ≡ true → begins_with (One symbols.Number) (word s text line ∷ ws) ≡ false
    → begins_with (One symbols.Star) (word s text line ∷ ws) ≡ false
    → collect how InRule (word s text line ∷ ws) ≡ collect how High (word s text line ∷ ws)
rule_bracket_from symbols.Number text line how ws e n s = absurd cc
rule_bracket_from symbols.Star text line how ws e n s = absurd cc
rule_bracket_from symbols.OpenBrace text line how ws e n s = refl
rule_bracket_from symbols.OpenSquare text line how ws e n s = refl
rule_bracket_from symbols.Less text line how ws e n s = fixed_entry text line how ws (no_title _ e)
rule_bracket_from _ text line how ws e n s = absurd cc

-- an entry that begins with no number and no `*` begins with a bracket
pub rule_bracket : (how : Reading) (ws : List Word) → begins_entry ws ≡ true → begins_with (One symbols.Number) ws ≡ false
    → begins_with (One symbols.Star) ws ≡ false → collect how InRule ws ≡ collect how High ws
rule_bracket how [] e n s = absurd cc
rule_bracket how (w ∷ ws) e n s = rule_bracket_from w.symbol w.text w.line how ws e n s

title_told : (o n g d : Word) (r : Result Gathered ℕ)
    → filled OpensEntry o (filled TitleOrFixed n (filled NoPart g (filled DefineIs d r))) ≡ filled BeginsItem o
    (filled TitleIs n (filled NoPart g (filled NoPart d r)))
title_told o n g d (Ok told) = refl
title_told o n g d (Err line) = refl

closed_title : (how : Reading) (d : Word) (ws : List Word) → fits (One symbols.Define) d.symbol ≡ true
    → collect how Closed (d ∷ ws) ≡ filled DefineIs d (collect how Defined ws)
closed_title how d ws h = rw (collect, h) refl

title_at : (o : Word) (how : Reading) (ws : List Word) → begins_with AnyName ws ≡ true
    → begins_with (One symbols.Greater) (drop 1 ws) ≡ true → begins_with (One symbols.Define) (drop 2 ws) ≡ true
    → filled OpensEntry o (collect how Angle ws) ≡ filled BeginsItem o (collect how TitleLess ws)
title_at o how [] a b c = absurd cc
title_at o how (n ∷ []) a b c = absurd cc
title_at o how (n ∷ g ∷ []) a b c = absurd cc
title_at o how (n ∷ g ∷ d ∷ ws) a b c =
    ap (filled OpensEntry o) (one_step how Angle AngleName TitleOrFixed AnyName n (g ∷ d ∷ ws) refl a
    ∙ ap (filled TitleOrFixed n) (one_step how AngleName Closed NoPart (One symbols.Greater) g (d ∷ ws) refl b
    ∙ ap (filled NoPart g) (closed_title how d ws c)))
    ∙ (title_told o n g d (collect how Defined ws)
    ∙ ap (filled BeginsItem o) (sym (one_step how TitleLess TitleName TitleIs AnyName n (g ∷ d ∷ ws) refl a
    ∙ ap (filled TitleIs n) (one_step how TitleName Titled NoPart (One symbols.Greater) g (d ∷ ws) refl b
    ∙ ap (filled NoPart g) (one_step how Titled Defined NoPart (One symbols.Define) d ws refl c)))))

a_title : (text : List ℕ) (line : ℕ) (how : Reading) (ws : List Word)
    → (begins_with AnyName ws && begins_with (One symbols.Greater) (drop 1 ws) && begins_with (One symbols.Define) (drop 2 ws)) ≡ true
    → collect how InRule (word symbols.Less text line ∷ ws) ≡ collect how Text (word symbols.Less text line ∷ ws)
a_title text line how ws h =
    let most = and_parts _ _ h in
    let front = and_parts _ _ most.0 in
    title_at (word symbols.Less text line) how ws front.0 front.1 most.1

no_entry_from : (s : Symbol) (text : List ℕ) (line : ℕ) (how : Reading) (ws : List Word)
    → begins_entry (word s text line ∷ ws) ≡ false
    → collect how InRule (word s text line ∷ ws) ≡ collect how Text (word s text line ∷ ws)
no_entry_from symbols.Number text line how ws e = absurd cc
no_entry_from symbols.Star text line how ws e = absurd cc
no_entry_from symbols.OpenBrace text line how ws e = absurd cc
no_entry_from symbols.OpenSquare text line how ws e = absurd cc
no_entry_from symbols.Less text line how ws e = a_title text line how ws (is_title _ e)
no_entry_from _ text line how ws e = refl

-- where no entry begins an item may
pub no_entry : (how : Reading) (ws : List Word) → begins_entry ws ≡ false → collect how InRule ws ≡ collect how Text ws
no_entry how [] e = refl
no_entry how (w ∷ ws) e = no_entry_from w.symbol w.text w.line how ws e
