-- The grammar of a text of version 1, whole (RFC 6733 section 3.2; "@" is own): a vendor is a number, and no value is
-- listed.
use Rattle.std.specs.Prelude.{◌≡◌, ℕ, List, [], ◌∷◌, ◌++◌, map, Option, option_map, ◌⊎◌}
use Rattle.dm_grammar.specs.declared.symbol.Symbol.TheVariants.{Less, Greater, Colon, At}
use Rattle.dm_grammar.specs.declared.symbol.Symbol.TheVariants.{Define, Header, Avp, AvpHeader}
use Rattle.dm_grammar.specs.Tokens.{Word, tokens, last_line}
use Rattle.dm_grammar.specs.Items.{EntryParts, CommandParts, Written}
use Rattle.dm_grammar.specs.Items.VendorReference.{NumberedBy}
use Rattle.dm_grammar.specs.Items.Written.{AvpIs, GroupIs, CommandIs}
use Rattle.dm_grammar.specs.Spelling.{Phrase, Spells, Ends, name_is, number_is}
use Rattle.dm_grammar.specs.Spelling.{number_may, title, second, command_head, entries}
use Rattle.dm_grammar.specs.Spelling.Phrase.{Empty, Literal, ◌then◌, ◌or◌}

-- "@" name number type [number]
pub record FirstAvp : Type 0 where
  pub name : Word
  pub code : Word
  pub kind : Word
  pub vendor : Option Word

-- title "::=" "<" ahead ">" *entry
pub record FirstGroup : Type 0 where
  pub name : Word
  pub code : Word
  pub vendor : Option Word
  pub rule : List EntryParts

pub data FirstItem : Type 0 where
  FirstAvpIs : FirstAvp → FirstItem
  FirstGroupIs : FirstGroup → FirstItem
  FirstCommandIs : CommandParts → FirstItem

-- ahead = ("AVP" "Header" | "AVP-Header") ":" number [[","] number]
abbrev pub first_head : FirstGroup → Phrase
first_head g =
    (Literal Avp then Literal Header or Literal AvpHeader) then Literal Colon then number_is g.code then second g.vendor

-- item = "@" name number type [number] | title "::=" "<" dhead ">" *entry | title "::=" "<" ahead ">" *entry
abbrev pub first_item_phrase : FirstItem → Phrase
first_item_phrase (FirstAvpIs a) =
    Literal At then name_is a.name then number_is a.code then name_is a.kind then number_may a.vendor
first_item_phrase (FirstCommandIs c) =
    title c.name then Literal Define then Literal Less then command_head c then Literal Greater then entries c.rule
first_item_phrase (FirstGroupIs g) =
    title g.name then Literal Define then Literal Less then first_head g then Literal Greater then entries g.rule

-- text = *item
abbrev pub first_items : List FirstItem → Phrase
first_items [] = Empty
first_items (i ∷ is) = first_item_phrase i then first_items is

-- the tokens are these items, and nothing behind them
abbrev pub AreFirst : List FirstItem → List Word → Type 0
AreFirst is ws = Spells (first_items is) Ends ws

-- a text can begin with the tokens
pub record CanBegin (ws : List Word) : Type 0 where
  pub behind : List Word
  pub items : List FirstItem
  pub spelled : AreFirst items (ws ++ behind)

-- a text can begin with the tokens before one of them, and none with that one too
pub record BreaksAtToken (ws : List Word) (line : ℕ) : Type 0 where
  pub before : List Word
  pub bad : Word
  pub behind : List Word
  pub whole : ws ≡ before ++ bad ∷ behind
  pub begun : CanBegin before
  pub broken : CanBegin (before ++ bad ∷ []) → ⊥
  pub its_line : line ≡ bad.line

-- a text can begin with the tokens, and they are none
pub record BreaksAtEnd (ws : List Word) (last line : ℕ) : Type 0 where
  pub begun : CanBegin ws
  pub broken : (is : List FirstItem) → AreFirst is ws → ⊥
  pub its_line : line ≡ last

-- a Syntax fault stands at the line: that of the first token with which no text can begin, or the last one
abbrev pub Breaks : List ℕ → ℕ → Type 0
Breaks text line = BreaksAtToken (tokens text) line ⊎ BreaksAtEnd (tokens text) (last_line text) line

-- an item as one of either version
abbrev pub as_written : FirstItem → Written
as_written (FirstAvpIs a) =
    AvpIs (record {
      name = a.name;
      code = a.code;
      kind = a.kind;
      vendor = option_map NumberedBy a.vendor;
      values = [];
    })
as_written (FirstGroupIs g) =
    GroupIs (record { name = g.name; code = g.code; vendor = option_map NumberedBy g.vendor; rule = g.rule })
as_written (FirstCommandIs c) = CommandIs c

-- the tokens are these items of either version, all of them items of version 1
abbrev pub AreFirstWritten : List Written → List Word → Type 0
AreFirstWritten items ws = (is : List FirstItem) × ((items ≡ map as_written is) × AreFirst is ws)
