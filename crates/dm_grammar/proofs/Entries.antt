-- What an entry's tokens tell.
use Rattle.std.proofs.Common.{◌≡◌, ℕ, List, [], ◌∷◌, Result, Ok, Err, Option, Some, None, MatchOption, refl, true, false, ap, subst, ◌∙◌}
use Rattle.dm_grammar.specs.declared.reading.Reading.{Reading}
use Rattle.dm_grammar.specs.declared.reading.Version.{Version}
use Rattle.dm_grammar.specs.declared.item.Form.{Form}
use Rattle.dm_grammar.specs.declared.item.Form.TheVariants.{Fixed, Required, Optional}
use Rattle.dm_grammar.specs.declared.symbol.Symbol.{Symbol}
use Rattle.dm_grammar.specs.declared.symbol.Symbol.TheVariants as symbols
use Rattle.dm_grammar.specs.declared.terminal.Terminal.TheVariants.{AnyName, One}
use Rattle.dm_grammar.specs.declared.token.Token.{Token}
use Rattle.dm_grammar.specs.Tokens.{Word}
use Rattle.dm_grammar.specs.Views.{view_word, view_option}
use Rattle.dm_grammar.specs.Grammar.{fits, steps_from, by, may_end}
use Rattle.dm_grammar.specs.Items.{EntryParts}
use Rattle.dm_grammar.specs.Places.{GrammarPlace}
use Rattle.dm_grammar.specs.Places.GrammarPlace.{InRule, Low, Starred, High, FixedOpen, FixedName, BraceOpen, BraceName, SquareOpen, SquareName}
use Rattle.dm_grammar.specs.Places.TokenRole.{NoPart, OpensEntry, EntryIs, StarIs, HighIs}
use Rattle.dm_grammar.specs.Readers.{begins_with, bracket_form, close_of, adding_entry, low_before}
use Rattle.dm_grammar.specs.Told.{Gathered, plain_entry, filled, collect}
use Rattle.dm_grammar.proofs.Plain.{word}

-- the places inside a bracket
abbrev pub open_place : Form → GrammarPlace
open_place Fixed = FixedOpen
open_place Required = BraceOpen
open_place Optional = SquareOpen

abbrev pub name_place : Form → GrammarPlace
name_place Fixed = FixedName
name_place Required = BraceName
name_place Optional = SquareName

pub open_step : (v : Version) (form : Form) → steps_from v (open_place form) ≡ by AnyName (name_place form) (EntryIs form)
open_step v Fixed = refl
open_step v Required = refl
open_step v Optional = refl

pub open_end : (form : Form) → may_end (open_place form) ≡ false
open_end Fixed = refl
open_end Required = refl
open_end Optional = refl

pub close_step : (v : Version) (form : Form) → steps_from v (name_place form) ≡ by (One (close_of form)) InRule NoPart
close_step v Fixed = refl
close_step v Required = refl
close_step v Optional = refl

pub close_end : (form : Form) → may_end (name_place form) ≡ false
close_end Fixed = refl
close_end Required = refl
close_end Optional = refl

-- the token that opens a bracket
opened_by : (s : Symbol) (text : List ℕ) (line : ℕ) (how : Reading) (ws : List Word) (form : Form) → bracket_form s ≡ Some form
    → collect how High (word s text line ∷ ws) ≡ filled OpensEntry (word s text line) (collect how (open_place form) ws)
opened_by symbols.Less text line how ws form e =
    let same : Fixed ≡ form = cc in ap
    (λ (f : Form). filled OpensEntry (word symbols.Less text line) (collect how (open_place f) ws)) same
opened_by symbols.OpenBrace text line how ws form e =
    let same : Required ≡ form = cc in ap
    (λ (f : Form). filled OpensEntry (word symbols.OpenBrace text line) (collect how (open_place f) ws)) same
opened_by symbols.OpenSquare text line how ws form e =
    let same : Optional ≡ form = cc in ap
    (λ (f : Form). filled OpensEntry (word symbols.OpenSquare text line) (collect how (open_place f) ws)) same
opened_by _ text line how ws form e = absurd cc

pub opened : (w : Word) (how : Reading) (ws : List Word) (form : Form) → bracket_form w.symbol ≡ Some form
    → collect how High (w ∷ ws) ≡ filled OpensEntry w (collect how (open_place form) ws)
opened w how ws form e = opened_by w.symbol w.text w.line how ws form e

unopened_by : (s : Symbol) (text : List ℕ) (line : ℕ) (how : Reading) (ws : List Word) → bracket_form s ≡ None
    → collect how High (word s text line ∷ ws) ≡ Err line
unopened_by symbols.Less text line how ws e = absurd cc
unopened_by symbols.OpenBrace text line how ws e = absurd cc
unopened_by symbols.OpenSquare text line how ws e = absurd cc
unopened_by _ text line how ws e = refl

pub unopened : (w : Word) (how : Reading) (ws : List Word) → bracket_form w.symbol ≡ None
    → collect how High (w ∷ ws) ≡ Err w.line
unopened w how ws e = unopened_by w.symbol w.text w.line how ws e

-- a name in brackets makes an entry
pub bracketed_entry : (form : Form) (o n c : Word) (r : Result Gathered ℕ)
    → filled OpensEntry o (filled (EntryIs form) n (filled NoPart c r)) ≡ adding_entry (plain_entry form n) r
bracketed_entry form o n c (Ok told) = refl
bracketed_entry form o n c (Err line) = refl

-- a qualifier is told to the entry behind it
abbrev pub low_entry : Option Word → Option Word → EntryParts → EntryParts
low_entry low high e = record e { qualifier = Some (record { low = low; high = high }) }

without_high : (low : Option Word) (star : Word) (e : EntryParts) (r : Result Gathered ℕ) → e.qualifier ≡ None
    → low_before low (filled StarIs star (adding_entry e r)) ≡ adding_entry (low_entry low None e) r
without_high None star e (Ok told) h = rw h refl
without_high (Some w) star e (Ok told) h = rw h refl
without_high None star e (Err line) h = refl
without_high (Some w) star e (Err line) h = refl

with_high : (low : Option Word) (star w : Word) (e : EntryParts) (r : Result Gathered ℕ)
    → low_before low (filled StarIs star (filled HighIs w (adding_entry e r))) ≡ adding_entry (low_entry low (Some w) e) r
with_high None star w e (Ok told) = refl
with_high (Some v) star w e (Ok told) = refl
with_high None star w e (Err line) = refl
with_high (Some v) star w e (Err line) = refl

-- from behind the `*` to the bracket
no_number : (how : Reading) (ws : List Word) → begins_with (One symbols.Number) ws ≡ false
    → collect how Starred ws ≡ collect how High ws
no_number how [] h = refl
no_number how (w ∷ ws) h = rw (collect, h) refl

a_number : (how : Reading) (ws rest : List Word) (w : Word) → ws ≡ w ∷ rest → fits (One symbols.Number) w.symbol ≡ true
    → collect how Starred ws ≡ filled HighIs w (collect how High rest)
a_number how ws rest w e h = rw (e, collect, h) refl

-- what `take_token_if` answers of a number
abbrev pub Number? : Option Token → List Word → List Word → Type 0
Number? v ws rest =
    MatchOption v ((rest ≡ ws) × (begins_with (One symbols.Number) ws ≡ false))
    (λ t. (ws ≡ view_word t ∷ rest) × (fits (One symbols.Number) (view_word t).symbol ≡ true))

starred_entry : (how : Reading) (low : Option Word) (star : Word) (ws rest end : List Word) (v : Option Token)
    (e : EntryParts)
    → Number? v ws rest → e.qualifier ≡ None → collect how High rest ≡ adding_entry e (collect how InRule end) →
    low_before low (filled StarIs star (collect how Starred ws)) ≡ adding_entry (low_entry low (view_option v) e)
    (collect how InRule end)
starred_entry how low star ws rest end None e n q h =
    ap (λ (r : Result Gathered ℕ). low_before low (filled StarIs star r))
    (no_number how ws n.1 ∙ subst (λ (s : List Word). collect how High s ≡ adding_entry e
    (collect how InRule end)) n.0 h) ∙ without_high low star e (collect how InRule end) q
starred_entry how low star ws rest end (Some v) e n q h =
    ap (λ (r : Result Gathered ℕ). low_before low (filled StarIs star r))
    (a_number how ws rest (view_word v) n.0 n.1 ∙ ap (filled HighIs (view_word v)) h) ∙ with_high low star (view_word v) e
    (collect how InRule end)

-- `*` [number] and an entry in brackets, where `*` is taken
pub low_to_entry : (how : Reading) (low : Option Word) (star : Word) (all ws rest end : List Word) (v : Option Token)
    (e : EntryParts) → collect how Low all ≡ filled StarIs star (collect how Starred ws) → Number? v ws rest
    → e.qualifier ≡ None → collect how High rest ≡ adding_entry e (collect how InRule end) →
    low_before low (collect how Low all) ≡ adding_entry (low_entry low (view_option v) e) (collect how InRule end)
low_to_entry how low star all ws rest end v e s n q h =
    ap (low_before low) s ∙ starred_entry how low star ws rest end v e n q h

low_fault : (low : Option Word) (line : ℕ) (r : Result Gathered ℕ) → r ≡ Err line → low_before low r ≡ Err line
low_fault None line r h = h
low_fault (Some w) line r h = rw h refl

starred_fault : (how : Reading) (line : ℕ) (ws rest : List Word) (v : Option Token) → Number? v ws rest
    → collect how High rest ≡ Err line → collect how Starred ws ≡ Err line
starred_fault how line ws rest None n h =
    no_number how ws n.1 ∙ subst (λ (s : List Word). collect how High s ≡ Err line) n.0 h
starred_fault how line ws rest (Some v) n h = a_number how ws rest (view_word v) n.0 n.1 ∙ ap (filled HighIs (view_word v)) h

pub no_star : (how : Reading) (low : Option Word) (line : ℕ) (all : List Word) → collect how Low all ≡ Err line
    → low_before low (collect how Low all) ≡ Err line
no_star how low line all h = low_fault low line (collect how Low all) h

pub no_bracket : (how : Reading) (low : Option Word) (line : ℕ) (star : Word) (all ws rest : List Word)
    (v : Option Token)
    → collect how Low all ≡ filled StarIs star (collect how Starred ws) → Number? v ws rest
    → collect how High rest ≡ Err line → low_before low (collect how Low all) ≡ Err line
no_bracket how low line star all ws rest v s n h =
    low_fault low line (collect how Low all) (s ∙ ap (filled StarIs star) (starred_fault how line ws rest v n h))
