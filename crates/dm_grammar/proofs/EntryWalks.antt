-- What tokens tell that are written by the entries of a rule.
use Rattle.std.proofs.Common.{◌≡◌, ℕ, List, [], ◌∷◌, drop, Ok, Err, Option, Some, None, refl, Bool, true, false, not, ◌&&◌, ap, sym, ◌∙◌, inl, inr}
use Rattle.dm_grammar.specs.declared.reading.Reading.{Reading}
use Rattle.dm_grammar.specs.declared.symbol.Symbol.{Symbol}
use Rattle.dm_grammar.specs.declared.symbol.Symbol.TheVariants as symbols
use Rattle.dm_grammar.specs.declared.item.Form.{Form}
use Rattle.dm_grammar.specs.declared.item.Form.TheVariants.{Fixed, Required, Optional}
use Rattle.dm_grammar.specs.declared.terminal.Terminal.{Terminal}
use Rattle.dm_grammar.specs.declared.terminal.Terminal.TheVariants.{AnyName, One}
use Rattle.dm_grammar.specs.Tokens.{Word}
use Rattle.dm_grammar.specs.Places.{GrammarPlace, TokenRole}
use Rattle.dm_grammar.specs.Places.GrammarPlace.{Text, TitleLess, TitleName, Titled, Defined, InRule, Low, Starred, High, Angle, AngleName, Closed, FixedOpen, FixedName, BraceOpen, BraceName, SquareOpen, SquareName}
use Rattle.dm_grammar.specs.Places.TokenRole.{NoPart, BeginsItem, TitleIs, TitleOrFixed, DefineIs, OpensEntry, LowIs, StarIs, HighIs, EntryIs}
use Rattle.dm_grammar.specs.Grammar.{on, by, fits, steps_from, may_end}
use Rattle.dm_grammar.specs.Items.{Range, EntryParts, Written}
use Rattle.dm_grammar.specs.Readers.{begins_with, begins_entry}
use Rattle.dm_grammar.specs.Told.{Gathered, fill, filled, collect}
use Rattle.dm_grammar.specs.Spelling.{Spells, number_may, qualifier, bracketed, entry_phrase, entries}
use Rattle.dm_grammar.specs.Spelling.Phrase.{Empty, Literal}
use Rattle.dm_grammar.proofs.Plain.{word}
use Rattle.dm_grammar.proofs.Rules.{no_entry}
use Rattle.dm_grammar.proofs.Syntax.{end_here, ok_inside}
use Rattle.dm_grammar.proofs.MoreSteps.{Tells}
use Rattle.dm_grammar.proofs.Walks.{before_items, before_rule, Walk, blank, mark, this, stay, narrow, ◌also◌}

-- entry = [qual] ("<" name ">" | "{" name "}" | "[" name "]")
abbrev high_bracket_told : Form → Word → Gathered → Gathered
high_bracket_told form n t = fill OpensEntry blank (fill (EntryIs form) n (fill NoPart blank t))

high_bracket_walk : (how : Reading) (form : Form) (n : Word)
    → Walk how High (bracketed form n) InRule (high_bracket_told form n)
high_bracket_walk how Fixed n =
    mark how High FixedOpen symbols.Less OpensEntry (λ w f. inl (f, refl)) (λ w t. refl)
    also this how FixedOpen FixedName AnyName (EntryIs Fixed) n (λ w f. inl (f, refl))
    also mark how FixedName InRule symbols.Greater NoPart (λ w f. inl (f, refl)) (λ w t. refl)
high_bracket_walk how Required n =
    mark how High BraceOpen symbols.OpenBrace OpensEntry (λ w f. inr (inl (f, refl))) (λ w t. refl)
    also this how BraceOpen BraceName AnyName (EntryIs Required) n (λ w f. inl (f, refl))
    also mark how BraceName InRule symbols.CloseBrace NoPart (λ w f. inl (f, refl)) (λ w t. refl)
high_bracket_walk how Optional n =
    mark how High SquareOpen symbols.OpenSquare OpensEntry (λ w f. inr (inr (inl (f, refl)))) (λ w t. refl)
    also this how SquareOpen SquareName AnyName (EntryIs Optional) n (λ w f. inl (f, refl))
    also mark how SquareName InRule symbols.CloseSquare NoPart (λ w f. inl (f, refl)) (λ w t. refl)

abbrev role_of : Form → TokenRole
role_of Fixed = TitleOrFixed
role_of Required = EntryIs Required
role_of Optional = EntryIs Optional

abbrev bracket_told : Form → Word → Gathered → Gathered
bracket_told form n t = fill OpensEntry blank (fill (role_of form) n (fill NoPart blank t))

-- without a qualifier, where `<` may begin a title too
bracket_walk : (how : Reading) (form : Form) (n : Word) → Walk how InRule (bracketed form n) InRule (bracket_told form n)
bracket_walk how Fixed n =
    mark how InRule Angle symbols.Less OpensEntry (λ w f. inr (inr (inl (f, refl)))) (λ w t. refl)
    also this how Angle AngleName AnyName TitleOrFixed n (λ w f. inl (f, refl))
    also narrow how AngleName Closed InRule (Literal symbols.Greater) (fill NoPart blank)
    (on symbols.Define Defined DefineIs)
    (mark how AngleName Closed symbols.Greater NoPart (λ w f. inl (f, refl)) (λ w t. refl)) refl (λ e. refl)
bracket_walk how Required n =
    mark how InRule BraceOpen symbols.OpenBrace OpensEntry (λ w f. inr (inr (inr (inr (inr (inl (f, refl))))))) (λ w t. refl)
    also this how BraceOpen BraceName AnyName (EntryIs Required) n (λ w f. inl (f, refl))
    also mark how BraceName InRule symbols.CloseBrace NoPart (λ w f. inl (f, refl)) (λ w t. refl)
bracket_walk how Optional n =
    mark how InRule SquareOpen symbols.OpenSquare OpensEntry (λ w f. inr (inr (inr (inr (inr (inr (inl (f, refl))))))))
    (λ w t. refl)
    also this how SquareOpen SquareName AnyName (EntryIs Optional) n (λ w f. inl (f, refl))
    also mark how SquareName InRule symbols.CloseSquare NoPart (λ w f. inl (f, refl)) (λ w t. refl)

abbrev high_told : Option Word → Gathered → Gathered
high_told None t = t
high_told (Some w) t = fill HighIs w t

high_walk : (how : Reading) (o : Option Word) → Walk how Starred (number_may o) High (high_told o)
high_walk how None =
    narrow how Starred Starred High Empty (λ (t : Gathered). t) (on symbols.Number High HighIs) (stay how Starred) refl
    (λ e. e)
high_walk how (Some w) = this how Starred High (One symbols.Number) HighIs w (λ w f. inl (f, refl))

abbrev low_told : Option Word → Gathered → Gathered
low_told None t = t
low_told (Some w) t = fill LowIs w t

abbrev range_told : Range → Gathered → Gathered
range_told q t = low_told q.low (fill StarIs blank (high_told q.high t))

-- qual = [number] "*" [number]
range_walk : (how : Reading) (low o : Option Word) → let q : Range = record { low = low; high = o } in
    Walk how InRule (qualifier (Some q)) High (range_told q)
range_walk how None o =
    stay how InRule
    also mark how InRule Starred symbols.Star StarIs (λ w f. inr (inr (inr (inr (inl (f, refl)))))) (λ w t. refl)
    also high_walk how o
range_walk how (Some v) o =
    this how InRule Low (One symbols.Number) LowIs v (λ w f. inr (inr (inr (inl (f, refl)))))
    also mark how Low Starred symbols.Star StarIs (λ w f. inl (f, refl)) (λ w t. refl)
    also high_walk how o

abbrev entry_told : EntryParts → Gathered → Gathered
entry_told e t =
    elim e.qualifier [ None ↦ bracket_told e.form e.name t | Some q ↦ range_told q (high_bracket_told e.form e.name t) ]

entry_of_walk : (how : Reading) (form : Form) (n : Word) (o : Option Range)
    → let e : EntryParts = record { form = form; name = n; qualifier = o } in
    Walk how InRule (entry_phrase e) InRule (entry_told e)
entry_of_walk how form n None = stay how InRule also bracket_walk how form n
entry_of_walk how form n (Some q) = range_walk how q.low q.high also high_bracket_walk how form n

entry_walk : (how : Reading) (e : EntryParts) → Walk how InRule (entry_phrase e) InRule (entry_told e)
entry_walk how e = entry_of_walk how e.form e.name e.qualifier

bracket_made : (form : Form) (n : Word) (es : List EntryParts) (is : List Written)
    → let e : EntryParts = record { form = form; name = n; qualifier = None } in
    bracket_told form n (before_rule es is) ≡ before_rule (e ∷ es) is
bracket_made Fixed n es is = refl
bracket_made Required n es is = refl
bracket_made Optional n es is = refl

range_made : (form : Form) (n : Word) (low o : Option Word) (es : List EntryParts) (is : List Written)
    → let q : Range = record { low = low; high = o } in
    let e : EntryParts = record { form = form; name = n; qualifier = Some q } in
    range_told q (high_bracket_told form n (before_rule es is)) ≡ before_rule (e ∷ es) is
range_made form n None None es is = refl
range_made form n (Some v) None es is = refl
range_made form n None (Some w) es is = refl
range_made form n (Some v) (Some w) es is = refl

entry_made_of : (form : Form) (n : Word) (o : Option Range) (es : List EntryParts) (is : List Written)
    → let e : EntryParts = record { form = form; name = n; qualifier = o } in
    entry_told e (before_rule es is) ≡ before_rule (e ∷ es) is
entry_made_of form n None es is = bracket_made form n es is
entry_made_of form n (Some q) es is = range_made form n q.low q.high es is

entry_made : (e : EntryParts) (es : List EntryParts) (is : List Written)
    → entry_told e (before_rule es is) ≡ before_rule (e ∷ es) is
entry_made e es is = entry_made_of e.form e.name e.qualifier es is

-- behind the how entry, what tells items tells them of the rule's end
one_token : (b : Bool) (how : Reading) (p q : GrammarPlace) (x : Terminal) (role : TokenRole) (t : Gathered) (w : Word) (ws : List Word)
    → steps_from how.version p ≡ by x q role → fits x w.symbol ≡ b → Tells how p t (w ∷ ws)
    → (b ≡ true) × ((u : Gathered) × Tells how q u ws)
one_token true how p q x role t w ws e f h =
    let there : collect how p (w ∷ ws) ≡ filled role w (collect how q ws) = rw (collect, e, f) refl in
    (refl, ok_inside role w (collect how q ws) t (sym there ∙ h))
one_token false how p q x role t w ws e f h =
    let bad : collect how p (w ∷ ws) ≡ Err w.line = rw (collect, e, f) refl in absurd cc

next_told : (how : Reading) (p q : GrammarPlace) (x : Terminal) (role : TokenRole) (t : Gathered) (ws : List Word)
    → steps_from how.version p ≡ by x q role
    → may_end p ≡ false → Tells how p t ws → (begins_with x ws ≡ true) × ((u : Gathered) × Tells how q u (drop 1 ws))
next_told how p q x role t [] e n h = let bad : collect how p [] ≡ Err how.last = end_here how p n in absurd cc
next_told how p q x role t (w ∷ ws) e n h = one_token (fits x w.symbol) how p q x role t w ws e refl h

title_there : (how : Reading) (t : Gathered) (ws : List Word) → Tells how TitleLess t ws
    → (begins_with AnyName ws && begins_with (One symbols.Greater) (drop 1 ws) && begins_with (One symbols.Define) (drop 2 ws)) ≡ true
title_there how t [] h = absurd cc
title_there how t (n ∷ ws) h =
    let a = next_told how TitleLess TitleName AnyName TitleIs t (n ∷ ws) refl refl h in
    let b = next_told how TitleName Titled (One symbols.Greater) NoPart a.1.0 ws refl refl a.1.1 in
    let c = next_told how Titled Defined (One symbols.Define) NoPart b.1.0 (drop 1 ws) refl refl b.1.1 in
    rw (a.0, b.0, c.0) refl

no_entry_there : (s : Symbol) (text : List ℕ) (line : ℕ) (how : Reading) (t : Gathered) (ws : List Word)
    → Tells how Text t (word s text line ∷ ws) → begins_entry (word s text line ∷ ws) ≡ false
no_entry_there symbols.Number text line how t ws h = absurd cc
no_entry_there symbols.Star text line how t ws h = absurd cc
no_entry_there symbols.OpenBrace text line how t ws h = absurd cc
no_entry_there symbols.OpenSquare text line how t ws h = absurd cc
no_entry_there symbols.Less text line how t ws h =
    let inside = ok_inside BeginsItem (word symbols.Less text line) (collect how TitleLess ws) t h in
    ap not (title_there how inside.0 ws inside.1)
no_entry_there _ text line how t ws h = refl

rule_ends : (how : Reading) (t : Gathered) (ws : List Word) → Tells how Text t ws → Tells how InRule t ws
rule_ends how t [] h = h
rule_ends how t (w ∷ ws) h = no_entry how (w ∷ ws) (no_entry_there w.symbol w.text w.line how t ws h) ∙ h

-- *entry, and items behind them
pub entries_told : (how : Reading) (es : List EntryParts) (is : List Written) (Behind : List Word → Type 0)
    → ((ws : List Word) → Behind ws → Tells how Text (before_items is) ws) → (ws : List Word)
    → Spells (entries es) Behind ws → Tells how InRule (before_rule es is) ws
entries_told how [] is Behind k ws h = rule_ends how (before_items is) ws (k ws h)
entries_told how (e ∷ es) is Behind k ws h =
    (entry_walk how e).go (Spells (entries es) Behind) (before_rule es is) (entries_told how es is Behind k) ws h
    ∙ ap Ok (entry_made e es is)
