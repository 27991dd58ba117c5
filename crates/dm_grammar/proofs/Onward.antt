-- What stands from a place on, where the tokens behind it are taken and the text ends well.
use Rattle.std.proofs.Common.{◌≡◌, List, [], ◌∷◌, Option, true, sym, subst, ◌⊎◌, inl, inr}
use Rattle.std.specs.Prelude.{⊤}
use Rattle.dm_grammar.specs.declared.symbol.Symbol.{Symbol}
use Rattle.dm_grammar.specs.declared.symbol.Symbol.TheVariants as symbols
use Rattle.dm_grammar.specs.declared.item.Form.{Form}
use Rattle.dm_grammar.specs.declared.reading.Version.{Version}
use Rattle.dm_grammar.specs.declared.reading.Version.TheVariants.{First, Second}
use Rattle.dm_grammar.specs.declared.terminal.Terminal.TheVariants.{AnyName, One}
use Rattle.dm_grammar.specs.Tokens.{Word}
use Rattle.dm_grammar.specs.Places.{GrammarPlace}
use Rattle.dm_grammar.specs.Places.GrammarPlace.{Text, AtSign, AvpName, AvpCode, Typed, TypedColon, AtVendor, VendorNamed, Listed, ListedColon, Vendored, ListOpen, ValueName, ValueEnd, TitleLess, TitleName, Titled, Defined, Head, CommandWord, CommandColon, CommandCode, Coded, CodedComma, Requested, RequestedComma, Proxied, ProxiedComma, GroupWord, GroupColon, GroupCode, GroupCoded, GroupNamed, Flagged, FlaggedComma, HeadEnd, InRule, Low, Starred, High, Angle, AngleName, Closed, FixedOpen, FixedName, BraceOpen, BraceName, SquareOpen, SquareName}
use Rattle.dm_grammar.specs.Grammar.{GrammarStep, fits}
use Rattle.dm_grammar.specs.Items.{VendorParts, VendorReference, ValueParts, AvpParts, EntryParts, GroupParts, CommandParts, Written}
use Rattle.dm_grammar.specs.Syntax.{SomeStep}
use Rattle.dm_grammar.specs.Spelling.{Phrase, Spells, Ends, name_is, number_is, number_may, reference_may, value_is, more_values, list, type_is, flag, second, group_vendor, command_head, group_head, bracketed, entries, items}
use Rattle.dm_grammar.specs.Spelling.Phrase.{Empty, Literal, ◌then◌}

-- what a title is given to
pub data Definition : Type 0 where
  OfGroup : GroupParts → Definition
  OfCommand : CommandParts → Definition

abbrev pub head_of : Version → Definition → Phrase
head_of v (OfGroup g) = group_head v g
head_of v (OfCommand c) = command_head c

abbrev pub rule_of : Definition → List EntryParts
rule_of (OfGroup g) = g.rule
rule_of (OfCommand c) = c.rule

abbrev pub IsSymbol : Symbol → Word → Type 0
IsSymbol s w = fits (One s) w.symbol ≡ true

abbrev pub IsName : Word → Type 0
IsName w = fits AnyName w.symbol ≡ true

-- the tokens are these items of a text of the version, and nothing behind them
abbrev pub AreAll : Version → List Written → List Word → Type 0
AreAll v is ws = Spells (items v is) Ends ws

-- the tokens are the phrase of some parts, and items behind it
pub record Has (v : Version) (A : Type 0) (phrase : A → Phrase) (ws : List Word) : Type 0 where
  pub parts : A
  pub items : List Written
  pub spelled : Spells (phrase parts) (AreAll v items) ws

-- the second number of a head, and a rule
pub record HeadEnding : Type 0 where
  pub second : Option Word
  pub rule : List EntryParts

abbrev pub ends_numbered : HeadEnding → Phrase
ends_numbered e = second e.second then Literal symbols.Greater then entries e.rule

abbrev pub ends_head : Version → GroupParts → Phrase
ends_head v g = group_vendor v g.vendor then Literal symbols.Greater then entries g.rule

abbrev pub after_proxiable : CommandParts → Phrase
after_proxiable c = flag symbols.Err c.error then second c.application then Literal symbols.Greater then entries c.rule

abbrev pub after_request : CommandParts → Phrase
after_request c = flag symbols.Pxy c.proxiable then after_proxiable c

abbrev pub after_code : CommandParts → Phrase
after_code c = flag symbols.Req c.request then after_request c

abbrev pub after_colon : CommandParts → Phrase
after_colon c = Literal symbols.Colon then number_is c.code then after_code c

abbrev pub after_group_colon : Version → GroupParts → Phrase
after_group_colon v g = Literal symbols.Colon then number_is g.code then ends_head v g

abbrev pub after_head : Version → Definition → Phrase
after_head v d = head_of v d then Literal symbols.Greater then entries (rule_of d)

abbrev pub after_title : Version → Definition → Phrase
after_title v d = Literal symbols.Define then Literal symbols.Less then after_head v d

-- a type's vendor and list, from behind the type on
pub record TypeEnding : Type 0 where
  pub vendor : Option VendorReference
  pub values : List ValueParts

abbrev pub lists : List ValueParts → Phrase
lists [] = Empty
lists (x ∷ xs) = list x xs

-- values from behind `{` or `,` on
abbrev pub closes : List ValueParts → Phrase
closes xs = more_values xs then Literal symbols.CloseBrace

pub record Listing : Type 0 where
  pub first : ValueParts
  pub rest : List ValueParts

-- what a text of version 2 alone has
abbrev pub InSecond : Version → Type 0 → Type 0
InSecond First A = ⊤
InSecond Second A = A

-- an entry from behind its `*` on, and the entries behind it
pub record Bracket : Type 0 where
  pub high : Option Word
  pub form : Form
  pub name : Word
  pub rule : List EntryParts

abbrev pub bracket : Bracket → Phrase
bracket b = bracketed b.form b.name then entries b.rule

abbrev pub starred : Bracket → Phrase
starred b = number_may b.high then bracket b

-- the tokens are some items
pub record HasItems (v : Version) (ws : List Word) : Type 0 where
  pub items : List Written
  pub spelled : AreAll v items ws

abbrev pub HasEntries : Version → List Word → Type 0
HasEntries v ws = Has v (List EntryParts) entries ws

-- what stands from a place on, where the text ends well: some phrase and items, or what the tokens before it
-- need to be some
abbrev pub Onward : Version → GrammarPlace → List Word → Type 0
Onward v Text ws = HasItems v ws
Onward v AtSign ws = (o : Word) → IsSymbol symbols.At o → HasItems v (o ∷ ws)
Onward v AvpName ws = Has v AvpParts (λ a. number_is a.code then type_is v a) ws
Onward v AvpCode ws = Has v AvpParts (λ a. type_is v a) ws
Onward v Typed ws = Has v (Option VendorReference) (λ d. reference_may v d) ws
Onward v TypedColon ws =
    InSecond v ((o : Word) → IsSymbol symbols.Colon o → Has v (Option VendorReference) (λ d. reference_may v d) (o ∷ ws))
Onward v AtVendor ws =
    InSecond v ((o w : Word) → IsSymbol symbols.At o → IsSymbol symbols.Vendor w → HasItems v (o ∷ w ∷ ws))
Onward v VendorNamed ws = Has v VendorParts (λ d. number_is d.number) ws
Onward v Listed ws = InSecond v (Has v TypeEnding (λ e. reference_may v e.vendor then lists e.values) ws)
Onward v ListedColon ws =
    InSecond v ((o : Word) → IsSymbol symbols.Colon o
    → Has v TypeEnding (λ e. reference_may v e.vendor then lists e.values) (o ∷ ws))
Onward v Vendored ws = Has v (List ValueParts) lists ws
Onward v ListOpen ws = Has v Listing (λ l. value_is l.first then closes l.rest) ws
Onward v ValueName ws = Has v Listing (λ l. number_is l.first.number then closes l.rest) ws
Onward v ValueEnd ws = Has v (List ValueParts) closes ws
Onward v TitleLess ws = (o : Word) → IsSymbol symbols.Less o → HasItems v (o ∷ ws)
Onward v TitleName ws = (o n : Word) → IsSymbol symbols.Less o → IsName n → HasItems v (o ∷ n ∷ ws)
Onward v Titled ws = Has v Definition (after_title v) ws
Onward v Defined ws = Has v Definition (λ d. Literal symbols.Less then after_head v d) ws
Onward v Head ws = Has v Definition (after_head v) ws
Onward v CommandWord ws = Has v CommandParts (λ c. Literal symbols.Header then after_colon c) ws
Onward v CommandColon ws = Has v CommandParts after_colon ws
Onward v CommandCode ws = Has v CommandParts (λ c. number_is c.code then after_code c) ws
Onward v Coded ws = Has v CommandParts after_code ws
Onward v CodedComma ws = (o : Word) → IsSymbol symbols.Comma o → Has v CommandParts after_code (o ∷ ws)
Onward v Requested ws = Has v CommandParts after_request ws
Onward v RequestedComma ws = (o : Word) → IsSymbol symbols.Comma o → Has v CommandParts after_request (o ∷ ws)
Onward v Proxied ws = Has v CommandParts after_proxiable ws
Onward v ProxiedComma ws = (o : Word) → IsSymbol symbols.Comma o → Has v CommandParts after_proxiable (o ∷ ws)
Onward v GroupWord ws = Has v GroupParts (λ g. Literal symbols.Header then after_group_colon v g) ws
Onward v GroupColon ws = Has v GroupParts (after_group_colon v) ws
Onward v GroupCode ws = Has v GroupParts (λ g. number_is g.code then ends_head v g) ws
Onward v GroupCoded ws = Has v GroupParts (ends_head v) ws
Onward v GroupNamed ws = InSecond v ((o : Word) → IsSymbol symbols.Colon o → Has v GroupParts (ends_head v) (o ∷ ws))
Onward v Flagged ws = Has v HeadEnding ends_numbered ws
Onward v FlaggedComma ws = (o : Word) → IsSymbol symbols.Comma o → Has v HeadEnding ends_numbered (o ∷ ws)
Onward v HeadEnd ws = Has v (List EntryParts) (λ es. Literal symbols.Greater then entries es) ws
Onward v InRule ws = HasEntries v ws
Onward v Low ws = (n : Word) → IsSymbol symbols.Number n → HasEntries v (n ∷ ws)
Onward v Starred ws = Has v Bracket starred ws
Onward v High ws = Has v Bracket bracket ws
Onward v Angle ws = (o : Word) → IsSymbol symbols.Less o → HasEntries v (o ∷ ws)
Onward v AngleName ws = (o n : Word) → IsSymbol symbols.Less o → IsName n → HasEntries v (o ∷ n ∷ ws)
Onward v Closed ws =
    (o n g : Word) → IsSymbol symbols.Less o → IsName n → IsSymbol symbols.Greater g → HasEntries v (o ∷ n ∷ g ∷ ws)
Onward v FixedOpen ws = Has v Bracket (λ b. name_is b.name then Literal symbols.Greater then entries b.rule) ws
Onward v FixedName ws = Has v (List EntryParts) (λ es. Literal symbols.Greater then entries es) ws
Onward v BraceOpen ws = Has v Bracket (λ b. name_is b.name then Literal symbols.CloseBrace then entries b.rule) ws
Onward v BraceName ws = Has v (List EntryParts) (λ es. Literal symbols.CloseBrace then entries es) ws
Onward v SquareOpen ws = Has v Bracket (λ b. name_is b.name then Literal symbols.CloseSquare then entries b.rule) ws
Onward v SquareName ws = Has v (List EntryParts) (λ es. Literal symbols.CloseSquare then entries es) ws

-- a step of the list takes the token, and the rest is behind it
abbrev pub TakenOnward : Version → List GrammarStep → Word → List Word → Type 0
TakenOnward v [] w ws = ⊥
TakenOnward v (r ∷ rs) w ws = ((fits r.wants w.symbol ≡ true) × Onward v r.leads ws) ⊎ TakenOnward v rs w ws

pub taken_onward : (v : Version) (rs : List GrammarStep) (w : Word) (m : GrammarPlace) (ws : List Word) → SomeStep rs w.symbol m
    → Onward v m ws → TakenOnward v rs w ws
taken_onward v [] w m ws x r = x
taken_onward v (s ∷ rs) w m ws (inl x) r = inl (x.0, subst (λ (m : GrammarPlace). Onward v m ws) (sym x.1) r)
taken_onward v (s ∷ rs) w m ws (inr x) r = inr (taken_onward v rs w m ws x r)

pub only : {A : Type 0} → A ⊎ ⊥ → A
only (inl x) = x
only (inr x) = absurd x
