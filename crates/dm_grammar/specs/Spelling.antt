-- The grammar of the dictionary text (RFC 6733 section 3.2), form by form: which tokens are which item. In a text
-- of version 2 vendors have names, and an Enumerated AVP may list its values (own).
use Rattle.std.specs.Prelude.{◌≡◌, Bool, true, false, List, [], ◌∷◌, codes, Option, Some, None, ◌⊎◌}
use Rattle.dm_grammar.specs.declared.symbol.Symbol.{Symbol}
use Rattle.dm_grammar.specs.declared.symbol.Symbol.TheVariants.{Less, Greater, OpenBrace, CloseBrace, OpenSquare}
use Rattle.dm_grammar.specs.declared.symbol.Symbol.TheVariants.{CloseSquare, Star, Comma, Colon, At, Define}
use Rattle.dm_grammar.specs.declared.symbol.Symbol.TheVariants.{Number, Diameter, Header, DiameterHeader, Avp}
use Rattle.dm_grammar.specs.declared.symbol.Symbol.TheVariants.{AvpHeader, Req, Pxy, Err, Vendor, Enumerated}
use Rattle.dm_grammar.specs.declared.item.Form.{Form}
use Rattle.dm_grammar.specs.declared.item.Form.TheVariants.{Fixed, Required, Optional}
use Rattle.dm_grammar.specs.declared.reading.Version.{Version}
use Rattle.dm_grammar.specs.declared.reading.Version.TheVariants.{First, Second}
use Rattle.dm_grammar.specs.declared.terminal.Terminal.{Terminal}
use Rattle.dm_grammar.specs.declared.terminal.Terminal.TheVariants.{AnyName, One}
use Rattle.dm_grammar.specs.Tokens.{Word}
use Rattle.dm_grammar.specs.Grammar.{fits}
use Rattle.dm_grammar.specs.Items.{VendorReference, ValueParts, Range, EntryParts}
use Rattle.dm_grammar.specs.Items.{VendorParts, AvpParts, GroupParts, CommandParts, Written}
use Rattle.dm_grammar.specs.Items.VendorReference.{NumberedBy, NamedBy}
use Rattle.dm_grammar.specs.Items.Written.{VendorIs, AvpIs, GroupIs, CommandIs}

infixr 30 ◌then◌
infixr 20 ◌or◌
-- what can be written: nothing that could be, no token, the number 2 in one digit, any token of a symbol, this token
-- where the terminal fits it, one phrase behind the other, or either of two
pub data Phrase : Type 0 where
  Never : Phrase
  Empty : Phrase
  Two : Phrase
  Literal : Symbol → Phrase
  This : Terminal → Word → Phrase
  ◌then◌ : Phrase → Phrase → Phrase
  ◌or◌ : Phrase → Phrase → Phrase

-- the tokens begin with the phrase, and `Behind` holds of those behind it
abbrev pub Spells : Phrase → (List Word → Type 0) → List Word → Type 0
Spells Never Behind ws = ⊥
Spells Empty Behind ws = Behind ws
Spells Two Behind [] = ⊥
Spells Two Behind (w ∷ ws) = (fits (One Number) w.symbol ≡ true) × ((w.text ≡ codes "2") × Behind ws)
Spells (Literal s) Behind [] = ⊥
Spells (Literal s) Behind (w ∷ ws) = (fits (One s) w.symbol ≡ true) × Behind ws
Spells (This t v) Behind [] = ⊥
Spells (This t v) Behind (w ∷ ws) = (fits t w.symbol ≡ true) × ((w ≡ v) × Behind ws)
Spells (a then b) Behind ws = Spells a (Spells b Behind) ws
Spells (a or b) Behind ws = Spells a Behind ws ⊎ Spells b Behind ws

abbrev pub name_is : Word → Phrase
name_is w = This AnyName w

abbrev pub number_is : Word → Phrase
number_is w = This (One Number) w

-- [number]
abbrev pub number_may : Option Word → Phrase
number_may None = Empty
number_may (Some w) = number_is w

-- vend = number | ":" name; a text of version 1 has the number alone
abbrev pub reference_is : Version → VendorReference → Phrase
reference_is v (NumberedBy w) = number_is w
reference_is First (NamedBy w) = Never
reference_is Second (NamedBy w) = Literal Colon then name_is w

-- [vend]
abbrev pub reference_may : Version → Option VendorReference → Phrase
reference_may v None = Empty
reference_may v (Some d) = reference_is v d

-- value = name number
abbrev pub value_is : ValueParts → Phrase
value_is x = name_is x.name then number_is x.number

-- *("," value)
abbrev pub more_values : List ValueParts → Phrase
more_values [] = Empty
more_values (x ∷ xs) = Literal Comma then value_is x then more_values xs

-- "{" value *("," value) "}"
abbrev pub list : ValueParts → List ValueParts → Phrase
list x xs = Literal OpenBrace then value_is x then more_values xs then Literal CloseBrace

-- type [vend] | "Enumerated" [vend] "{" value *("," value) "}"; a text of version 1 has no list
abbrev pub kind_and_values : Version → Word → Option VendorReference → List ValueParts → Phrase
kind_and_values v k d [] = name_is k then reference_may v d
kind_and_values First k d (x ∷ xs) = Never
kind_and_values Second k d (x ∷ xs) = This (One Enumerated) k then reference_may Second d then list x xs

abbrev pub type_is : Version → AvpParts → Phrase
type_is v a = kind_and_values v a.kind a.vendor a.values

-- title = "<" name ">" | name
abbrev pub title : Word → Phrase
title w = Literal Less then name_is w then Literal Greater or name_is w

-- ["," flag]
abbrev pub flag : Symbol → Bool → Phrase
flag s false = Empty
flag s true = Literal Comma then Literal s

-- [[","] number]
abbrev pub second : Option Word → Phrase
second None = Empty
second (Some w) = Literal Comma then number_is w or number_is w

-- dhead = ("Diameter" "Header" | "Diameter-Header") ":" number ["," "REQ"] ["," "PXY"] ["," "ERR"] [[","] number]
abbrev pub command_head : CommandParts → Phrase
command_head c =
    (Literal Diameter then Literal Header or Literal DiameterHeader) then Literal Colon then number_is c.code
    then flag Req c.request then flag Pxy c.proxiable then flag Err c.error then second c.application

-- [[","] number]; in a text of version 2 [[","] number | ":" name]
abbrev pub group_vendor : Version → Option VendorReference → Phrase
group_vendor v None = Empty
group_vendor v (Some (NumberedBy w)) = second (Some w)
group_vendor v (Some (NamedBy w)) = reference_is v (NamedBy w)

-- ahead = ("AVP" "Header" | "AVP-Header") ":" number [[","] number]
-- ahead2 = ("AVP" "Header" | "AVP-Header") ":" number [[","] number | ":" name]
abbrev pub group_head : Version → GroupParts → Phrase
group_head v g =
    (Literal Avp then Literal Header or Literal AvpHeader) then Literal Colon then number_is g.code
    then group_vendor v g.vendor

-- qual = [number] "*" [number]
abbrev pub qualifier : Option Range → Phrase
qualifier None = Empty
qualifier (Some q) = number_may q.low then Literal Star then number_may q.high

-- "<" name ">" | "{" name "}" | "[" name "]"
abbrev pub bracketed : Form → Word → Phrase
bracketed Fixed w = Literal Less then name_is w then Literal Greater
bracketed Required w = Literal OpenBrace then name_is w then Literal CloseBrace
bracketed Optional w = Literal OpenSquare then name_is w then Literal CloseSquare

-- entry = [qual] ("<" name ">" | "{" name "}" | "[" name "]")
abbrev pub entry_phrase : EntryParts → Phrase
entry_phrase e = qualifier e.qualifier then bracketed e.form e.name

-- *entry
abbrev pub entries : List EntryParts → Phrase
entries [] = Empty
entries (e ∷ es) = entry_phrase e then entries es

-- "@" "vendor" name number; a text of version 1 has none
abbrev pub vendor : Version → VendorParts → Phrase
vendor First d = Never
vendor Second d = Literal At then Literal Vendor then name_is d.name then number_is d.number

-- item = "@" name number type [number] | title "::=" "<" dhead ">" *entry | title "::=" "<" ahead ">" *entry
-- item2 = "@" "vendor" name number | "@" name number type [vend]
--       | "@" name number "Enumerated" [vend] "{" value *("," value) "}"
--       | title "::=" "<" dhead ">" *entry | title "::=" "<" ahead2 ">" *entry
abbrev pub item : Version → Written → Phrase
item v (VendorIs d) = vendor v d
item v (AvpIs a) = Literal At then name_is a.name then number_is a.code then type_is v a
item v (CommandIs c) =
    title c.name then Literal Define then Literal Less then command_head c then Literal Greater then entries c.rule
item v (GroupIs g) =
    title g.name then Literal Define then Literal Less then group_head v g then Literal Greater then entries g.rule

-- *item
abbrev pub items : Version → List Written → Phrase
items v [] = Empty
items v (i ∷ is) = item v i then items v is

-- text = *item; text2 = "@" "2" *item2
abbrev pub text : Version → List Written → Phrase
text First is = items First is
text Second is = Literal At then Two then items Second is

abbrev pub Ends : List Word → Type 0
Ends ws = ws ≡ []

-- the tokens are these items, and nothing behind them
abbrev pub AreItems : List Written → List Word → Type 0
AreItems is ws = Spells (text First is) Ends ws ⊎ Spells (text Second is) Ends ws
