-- The grammar of the dictionary text (RFC 6733 section 3.2) as a finite list of steps: in a text of a version, from
-- a place, by a token, to the next place. The version tells what may stand behind "@", as a type, behind a type and
-- behind a group's code; no step of version 1 leads to the places of vendors' names and lists (own).
use Rattle.std.specs.Prelude.{ℕ, Bool, true, false, ◌&&◌, not, nat_eq, List}
use Rattle.std.specs.Prelude.{[], ◌∷◌, ◌++◌, Option, Some, None, if◌then◌else◌}
use Rattle.dm_grammar.specs.declared.symbol.Symbol.{Symbol}
use Rattle.dm_grammar.specs.declared.symbol.Symbol.TheVariants.{Less, Greater, OpenBrace, CloseBrace, OpenSquare}
use Rattle.dm_grammar.specs.declared.symbol.Symbol.TheVariants.{CloseSquare, Star, Comma, Colon, At, Define, Number}
use Rattle.dm_grammar.specs.declared.symbol.Symbol.TheVariants.{Name, Diameter, Header, DiameterHeader, Avp}
use Rattle.dm_grammar.specs.declared.symbol.Symbol.TheVariants.{AvpHeader, Req, Pxy, Err, Vendor, Enumerated, Stray}
use Rattle.dm_grammar.specs.declared.item.Form.TheVariants.{Fixed, Required, Optional}
use Rattle.dm_grammar.specs.declared.terminal.Terminal.{Terminal}
use Rattle.dm_grammar.specs.declared.terminal.Terminal.TheVariants.{AnyName, NameBut, One}
use Rattle.dm_grammar.specs.declared.reading.Version.{Version}
use Rattle.dm_grammar.specs.declared.reading.Version.TheVariants.{First, Second}
use Rattle.dm_grammar.specs.Places.{GrammarPlace, TokenRole}
use Rattle.dm_grammar.specs.Places.GrammarPlace.{Text, AtSign, AvpName, AvpCode, Typed, TypedColon, AtVendor}
use Rattle.dm_grammar.specs.Places.GrammarPlace.{VendorNamed, Listed, ListedColon, Vendored, ListOpen, ValueName}
use Rattle.dm_grammar.specs.Places.GrammarPlace.{ValueEnd, TitleLess, TitleName, Titled, Defined, Head, CommandWord}
use Rattle.dm_grammar.specs.Places.GrammarPlace.{CommandColon, CommandCode, Coded, CodedComma, Requested}
use Rattle.dm_grammar.specs.Places.GrammarPlace.{RequestedComma, Proxied, ProxiedComma, GroupWord, GroupColon}
use Rattle.dm_grammar.specs.Places.GrammarPlace.{GroupCode, GroupCoded, GroupNamed, Flagged, FlaggedComma, HeadEnd}
use Rattle.dm_grammar.specs.Places.GrammarPlace.{InRule, Low, Starred, High, Angle, AngleName, Closed, FixedOpen}
use Rattle.dm_grammar.specs.Places.GrammarPlace.{FixedName, BraceOpen, BraceName, SquareOpen, SquareName}
use Rattle.dm_grammar.specs.Places.TokenRole.{NoPart, BeginsItem, NameOfAvp, CodeIs, KindIs, SecondIs}
use Rattle.dm_grammar.specs.Places.TokenRole.{NamedIs, ValueIs, TitleIs, TitleOrFixed, DefineIs}
use Rattle.dm_grammar.specs.Places.TokenRole.{CommandHead, GroupHead, RequestFlag, ProxiableFlag}
use Rattle.dm_grammar.specs.Places.TokenRole.{ErrorFlag, Rules, OpensEntry, LowIs, StarIs, HighIs, EntryIs}

-- a word that only its place makes special is a name elsewhere
abbrev pub is_name_symbol : Symbol → Bool
is_name_symbol Name = true
is_name_symbol Diameter = true
is_name_symbol Header = true
is_name_symbol DiameterHeader = true
is_name_symbol Avp = true
is_name_symbol AvpHeader = true
is_name_symbol Req = true
is_name_symbol Pxy = true
is_name_symbol Err = true
is_name_symbol Vendor = true
is_name_symbol Enumerated = true
is_name_symbol _ = false

abbrev pub symbol_number : Symbol → ℕ
symbol_number Less = 0
symbol_number Greater = 1
symbol_number OpenBrace = 2
symbol_number CloseBrace = 3
symbol_number OpenSquare = 4
symbol_number CloseSquare = 5
symbol_number Star = 6
symbol_number Comma = 7
symbol_number Colon = 8
symbol_number At = 9
symbol_number Define = 10
symbol_number Number = 11
symbol_number Name = 12
symbol_number Diameter = 13
symbol_number Header = 14
symbol_number DiameterHeader = 15
symbol_number Avp = 16
symbol_number AvpHeader = 17
symbol_number Req = 18
symbol_number Pxy = 19
symbol_number Err = 20
symbol_number Vendor = 21
symbol_number Enumerated = 22
symbol_number Stray = 23

-- a terminal is any name, any name but one word, or one symbol
abbrev pub fits : Terminal → Symbol → Bool
fits AnyName s = is_name_symbol s
fits (NameBut t) s = is_name_symbol s && not (nat_eq (symbol_number t) (symbol_number s))
fits (One t) s = nat_eq (symbol_number t) (symbol_number s)

-- a step: the token that it takes, where it leads, and what the token is to its item
pub record GrammarStep : Type 0 where
  pub wants : Terminal
  pub leads : GrammarPlace
  pub role : TokenRole

abbrev pub by : Terminal → GrammarPlace → TokenRole → List GrammarStep
by t p r = record { wants = t; leads = p; role = r } ∷ []

abbrev pub on : Symbol → GrammarPlace → TokenRole → List GrammarStep
on s p r = by (One s) p r

-- text = *item; item = "@" .. | title ..; title = "<" name ">" | name
abbrev pub item_steps : List GrammarStep
item_steps = on At AtSign BeginsItem ++ on Less TitleLess BeginsItem ++ by AnyName Titled TitleIs

-- "{" name "}" | "[" name "]"
abbrev pub bracket_steps : List GrammarStep
bracket_steps = on OpenBrace BraceOpen OpensEntry ++ on OpenSquare SquareOpen OpensEntry

-- *entry, then another item; behind "<" either may stand: "<" name ">" with "::=" behind it is a title
abbrev pub rule_steps : List GrammarStep
rule_steps =
    on At AtSign BeginsItem ++ by AnyName Titled TitleIs ++ on Less Angle OpensEntry
    ++ on Number Low LowIs ++ on Star Starred StarIs ++ bracket_steps

-- behind "@": the name of an AVP, or the word that may begin a vendor
abbrev pub name_steps : Version → List GrammarStep
name_steps First = by AnyName AvpName NameOfAvp
name_steps Second = on Vendor AtVendor NameOfAvp ++ by (NameBut Vendor) AvpName NameOfAvp

-- a type, or the one behind which a list may stand
abbrev pub kind_steps : Version → List GrammarStep
kind_steps First = by AnyName Typed KindIs
kind_steps Second = on Enumerated Listed KindIs ++ by (NameBut Enumerated) Typed KindIs

-- ":" before the name of a vendor
abbrev pub colon_steps : Version → GrammarPlace → List GrammarStep
colon_steps First p = []
colon_steps Second p = on Colon p NoPart

-- "{" before a list, or an item
abbrev pub list_steps : List GrammarStep
list_steps = on OpenBrace ListOpen NoPart ++ item_steps

-- [[","] number] ">"
abbrev pub end_steps : List GrammarStep
end_steps = on Comma FlaggedComma NoPart ++ on Number HeadEnd SecondIs ++ on Greater InRule Rules

abbrev pub steps_from : Version → GrammarPlace → List GrammarStep
-- "@" name number type [vend]
steps_from v Text = item_steps
steps_from v AtSign = name_steps v
steps_from v AvpName = on Number AvpCode CodeIs
steps_from v AvpCode = kind_steps v
steps_from v Typed = on Number Text SecondIs ++ colon_steps v TypedColon ++ item_steps
steps_from v TypedColon = by AnyName Text NamedIs
-- "@" "vendor" name number
steps_from v AtVendor = on Number AvpCode CodeIs ++ by AnyName VendorNamed NamedIs
steps_from v VendorNamed = on Number Text CodeIs
-- "Enumerated" [vend] ["{" value *("," value) "}"]; value = name number
steps_from v Listed = on Number Vendored SecondIs ++ colon_steps v ListedColon ++ list_steps
steps_from v ListedColon = by AnyName Vendored NamedIs
steps_from v Vendored = list_steps
steps_from v ListOpen = by AnyName ValueName ValueIs
steps_from v ValueName = on Number ValueEnd CodeIs
steps_from v ValueEnd = on Comma ListOpen NoPart ++ on CloseBrace Text NoPart
-- title "::=" "<"
steps_from v TitleLess = by AnyName TitleName TitleIs
steps_from v TitleName = on Greater Titled NoPart
steps_from v Titled = on Define Defined NoPart
steps_from v Defined = on Less Head NoPart
-- dhead = ("Diameter" "Header" | "Diameter-Header") ":" number ["," "REQ"] ["," "PXY"] ["," "ERR"] [[","] number]
-- ahead = ("AVP" "Header" | "AVP-Header") ":" number [[","] number]
-- ahead2 = ("AVP" "Header" | "AVP-Header") ":" number [[","] number | ":" name]
steps_from v Head = on Diameter CommandWord CommandHead ++ on DiameterHeader CommandColon CommandHead ++
    on Avp GroupWord GroupHead ++ on AvpHeader GroupColon GroupHead
steps_from v CommandWord = on Header CommandColon NoPart
steps_from v CommandColon = on Colon CommandCode NoPart
steps_from v CommandCode = on Number Coded CodeIs
steps_from v Coded = on Comma CodedComma NoPart ++ on Number HeadEnd SecondIs ++ on Greater InRule Rules
steps_from v CodedComma = on Req Requested RequestFlag ++ on Pxy Proxied ProxiableFlag ++ on Err Flagged ErrorFlag ++
    on Number HeadEnd SecondIs
steps_from v Requested = on Comma RequestedComma NoPart ++ on Number HeadEnd SecondIs ++ on Greater InRule Rules
steps_from v RequestedComma = on Pxy Proxied ProxiableFlag ++ on Err Flagged ErrorFlag ++ on Number HeadEnd SecondIs
steps_from v Proxied = on Comma ProxiedComma NoPart ++ on Number HeadEnd SecondIs ++ on Greater InRule Rules
steps_from v ProxiedComma = on Err Flagged ErrorFlag ++ on Number HeadEnd SecondIs
steps_from v GroupWord = on Header GroupColon NoPart
steps_from v GroupColon = on Colon GroupCode NoPart
steps_from v GroupCode = on Number GroupCoded CodeIs
steps_from v GroupCoded = colon_steps v GroupNamed ++ end_steps
steps_from v GroupNamed = by AnyName HeadEnd NamedIs
steps_from v Flagged = end_steps
steps_from v FlaggedComma = on Number HeadEnd SecondIs
steps_from v HeadEnd = on Greater InRule Rules
-- entry = [qual] ("<" name ">" | "{" name "}" | "[" name "]"); qual = [number] "*" [number]
steps_from v InRule = rule_steps
steps_from v Low = on Star Starred StarIs
steps_from v Starred = on Number High HighIs ++ on Less FixedOpen OpensEntry ++ bracket_steps
steps_from v High = on Less FixedOpen OpensEntry ++ bracket_steps
steps_from v Angle = by AnyName AngleName TitleOrFixed
steps_from v AngleName = on Greater Closed NoPart
steps_from v Closed = on Define Defined DefineIs ++ rule_steps
steps_from v FixedOpen = by AnyName FixedName (EntryIs Fixed)
steps_from v FixedName = on Greater InRule NoPart
steps_from v BraceOpen = by AnyName BraceName (EntryIs Required)
steps_from v BraceName = on CloseBrace InRule NoPart
steps_from v SquareOpen = by AnyName SquareName (EntryIs Optional)
steps_from v SquareName = on CloseSquare InRule NoPart

-- a text may end where an item may begin
abbrev pub may_end : GrammarPlace → Bool
may_end Text = true
may_end Typed = true
may_end Listed = true
may_end Vendored = true
may_end InRule = true
may_end Closed = true
may_end _ = false

-- the step of a list that takes a token of the symbol
abbrev pub taking : List GrammarStep → Symbol → Option GrammarStep
taking [] s = None
taking (r ∷ rs) s = if fits r.wants s then Some r else taking rs s
