-- From each place some tokens lead to where a text may end.
use Rattle.std.proofs.Common.{◌≡◌, List, [], ◌∷◌, map, Option, Some, None, refl, Bool, true, false}
use Rattle.dm_grammar.specs.declared.symbol.Symbol.{Symbol}
use Rattle.dm_grammar.specs.declared.symbol.Symbol.TheVariants.{Less, Greater, CloseBrace, CloseSquare, Star, Colon, Define, Number, Name, Header, AvpHeader}
use Rattle.dm_grammar.specs.declared.reading.Version.{Version}
use Rattle.dm_grammar.specs.declared.reading.Version.TheVariants.{First}
use Rattle.dm_grammar.specs.Tokens.{Word}
use Rattle.dm_grammar.specs.Places.{GrammarPlace}
use Rattle.dm_grammar.specs.Places.GrammarPlace.{Text, AtSign, AvpName, AvpCode, Typed, TypedColon, AtVendor, VendorNamed, Listed, ListedColon, Vendored, ListOpen, ValueName, ValueEnd, TitleLess, TitleName, Titled, Defined, Head, CommandWord, CommandColon, CommandCode, Coded, CodedComma, Requested, RequestedComma, Proxied, ProxiedComma, GroupWord, GroupColon, GroupCode, GroupCoded, GroupNamed, Flagged, FlaggedComma, HeadEnd, InRule, Low, Starred, High, Angle, AngleName, Closed, FixedOpen, FixedName, BraceOpen, BraceName, SquareOpen, SquareName}
use Rattle.dm_grammar.specs.Grammar.{GrammarStep, steps_from, taking, may_end}
use Rattle.dm_grammar.proofs.Syntax.{AllTaken, some_taken}

-- symbols that lead to an end
abbrev ending : GrammarPlace → List Symbol
ending AtSign = Name ∷ Number ∷ Name ∷ []
ending AvpName = Number ∷ Name ∷ []
ending AvpCode = Name ∷ []
ending TypedColon = Name ∷ []
ending AtVendor = Number ∷ Name ∷ []
ending VendorNamed = Number ∷ []
ending ListedColon = Name ∷ []
ending ListOpen = Name ∷ Number ∷ CloseBrace ∷ []
ending ValueName = Number ∷ CloseBrace ∷ []
ending ValueEnd = CloseBrace ∷ []
ending TitleLess = Name ∷ Greater ∷ Define ∷ Less ∷ AvpHeader ∷ Colon ∷ Number ∷ Greater ∷ []
ending TitleName = Greater ∷ Define ∷ Less ∷ AvpHeader ∷ Colon ∷ Number ∷ Greater ∷ []
ending Titled = Define ∷ Less ∷ AvpHeader ∷ Colon ∷ Number ∷ Greater ∷ []
ending Defined = Less ∷ AvpHeader ∷ Colon ∷ Number ∷ Greater ∷ []
ending Head = AvpHeader ∷ Colon ∷ Number ∷ Greater ∷ []
ending CommandWord = Header ∷ Colon ∷ Number ∷ Greater ∷ []
ending CommandColon = Colon ∷ Number ∷ Greater ∷ []
ending CommandCode = Number ∷ Greater ∷ []
ending Coded = Greater ∷ []
ending CodedComma = Number ∷ Greater ∷ []
ending Requested = Greater ∷ []
ending RequestedComma = Number ∷ Greater ∷ []
ending Proxied = Greater ∷ []
ending ProxiedComma = Number ∷ Greater ∷ []
ending GroupWord = Header ∷ Colon ∷ Number ∷ Greater ∷ []
ending GroupColon = Colon ∷ Number ∷ Greater ∷ []
ending GroupCode = Number ∷ Greater ∷ []
ending GroupCoded = Greater ∷ []
ending GroupNamed = Name ∷ Greater ∷ []
ending Flagged = Greater ∷ []
ending FlaggedComma = Number ∷ Greater ∷ []
ending HeadEnd = Greater ∷ []
ending Low = Star ∷ Less ∷ Name ∷ Greater ∷ []
ending Starred = Less ∷ Name ∷ Greater ∷ []
ending High = Less ∷ Name ∷ Greater ∷ []
ending Angle = Name ∷ Greater ∷ []
ending AngleName = Greater ∷ []
ending FixedOpen = Name ∷ Greater ∷ []
ending FixedName = Greater ∷ []
ending BraceOpen = Name ∷ CloseBrace ∷ []
ending BraceName = CloseBrace ∷ []
ending SquareOpen = Name ∷ CloseSquare ∷ []
ending SquareName = CloseSquare ∷ []
ending _ = []

-- the symbols lead from the place to an end
abbrev ends : Version → GrammarPlace → List Symbol → Bool
ends v p [] = may_end p
ends v p (s ∷ ss) = elim (taking (steps_from v p) s) [ None ↦ false | Some r ↦ ends v r.leads ss ]

first_ends : (p : GrammarPlace) → ends First p (ending p) ≡ true
first_ends Text = refl
first_ends AtSign = refl
first_ends AvpName = refl
first_ends AvpCode = refl
first_ends Typed = refl
first_ends TypedColon = refl
first_ends AtVendor = refl
first_ends VendorNamed = refl
first_ends Listed = refl
first_ends ListedColon = refl
first_ends Vendored = refl
first_ends ListOpen = refl
first_ends ValueName = refl
first_ends ValueEnd = refl
first_ends TitleLess = refl
first_ends TitleName = refl
first_ends Titled = refl
first_ends Defined = refl
first_ends Head = refl
first_ends CommandWord = refl
first_ends CommandColon = refl
first_ends CommandCode = refl
first_ends Coded = refl
first_ends CodedComma = refl
first_ends Requested = refl
first_ends RequestedComma = refl
first_ends Proxied = refl
first_ends ProxiedComma = refl
first_ends GroupWord = refl
first_ends GroupColon = refl
first_ends GroupCode = refl
first_ends GroupCoded = refl
first_ends GroupNamed = refl
first_ends Flagged = refl
first_ends FlaggedComma = refl
first_ends HeadEnd = refl
first_ends InRule = refl
first_ends Low = refl
first_ends Starred = refl
first_ends High = refl
first_ends Angle = refl
first_ends AngleName = refl
first_ends Closed = refl
first_ends FixedOpen = refl
first_ends FixedName = refl
first_ends BraceOpen = refl
first_ends BraceName = refl
first_ends SquareOpen = refl
first_ends SquareName = refl

-- some token of a symbol
abbrev some : Symbol → Word
some s = record { symbol = s; text = []; line = 0 }

by_step : (v : Version) (p : GrammarPlace) (s : Symbol) (ss : List Symbol) (o : Option GrammarStep) → taking (steps_from v p) s ≡ o
    → elim o [ None ↦ false | Some r ↦ ends v r.leads ss ] ≡ true
    → ((q : GrammarPlace) → ends v q ss ≡ true → AllTaken v q (map some ss)) → AllTaken v p (map some (s ∷ ss))
by_step v p s ss None e h go = absurd cc
by_step v p s ss (Some r) e h go =
    let rest = go r.leads h in (rest.0, ((r.leads, (some_taken (steps_from v p) s r e, rest.1.0)), rest.1.1))

taken : (v : Version) (ss : List Symbol) (p : GrammarPlace) → ends v p ss ≡ true → AllTaken v p (map some ss)
taken v [] p h = (p, (refl, h))
taken v (s ∷ ss) p h = by_step v p s ss (taking (steps_from v p) s) refl h (taken v ss)

-- what can stand behind a place
abbrev pub rest_of : GrammarPlace → List Word
rest_of p = map some (ending p)

pub rest_taken : (p : GrammarPlace) → AllTaken First p (rest_of p)
rest_taken p = taken First (ending p) p (first_ends p)
