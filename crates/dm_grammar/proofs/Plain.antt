-- Where an item may begin, no part of an item is left over.
use Rattle.std.proofs.Common.{◌≡◌, ℕ, List, [], ◌∷◌, Result, Ok, Err, IfOk, refl}
use Rattle.dm_grammar.specs.declared.reading.Reading.{Reading}
use Rattle.dm_grammar.specs.declared.symbol.Symbol.{Symbol}
use Rattle.dm_grammar.specs.declared.symbol.Symbol.TheVariants.{Less, At, Name, Diameter, Header, DiameterHeader, Avp, AvpHeader, Req, Pxy, Vendor, Enumerated}
use Rattle.dm_grammar.specs.declared.symbol.Symbol.TheVariants as symbols
use Rattle.dm_grammar.specs.Tokens.{Word}
use Rattle.dm_grammar.specs.Places.GrammarPlace.{Text, TitleLess, AtSign, Titled}
use Rattle.dm_grammar.specs.Places.TokenRole.{BeginsItem, TitleIs}
use Rattle.dm_grammar.specs.Told.{Gathered, none_gathered, filled, collect}

abbrev pub IsPlain : Gathered → Type 0
IsPlain told = told ≡ record none_gathered { items = told.items }

abbrev pub word : Symbol → List ℕ → ℕ → Word
word s text line = record { symbol = s; text = text; line = line }

begins : (w : Word) (r : Result Gathered ℕ) → IfOk (filled BeginsItem w r) IsPlain
begins w (Ok told) = refl
begins w (Err line) = tt

titles : (w : Word) (r : Result Gathered ℕ) → IfOk (filled TitleIs w r) IsPlain
titles w (Ok told) = refl
titles w (Err line) = tt

plain_from : (s : Symbol) (text : List ℕ) (line : ℕ) (how : Reading) (ws : List Word)
    → IfOk (collect how Text (word s text line ∷ ws)) IsPlain
plain_from At text line how ws = begins (word At text line) (collect how AtSign ws)
plain_from Less text line how ws = begins (word Less text line) (collect how TitleLess ws)
plain_from Name text line how ws = titles (word Name text line) (collect how Titled ws)
plain_from Diameter text line how ws = titles (word Diameter text line) (collect how Titled ws)
plain_from Header text line how ws = titles (word Header text line) (collect how Titled ws)
plain_from DiameterHeader text line how ws = titles (word DiameterHeader text line) (collect how Titled ws)
plain_from Avp text line how ws = titles (word Avp text line) (collect how Titled ws)
plain_from AvpHeader text line how ws = titles (word AvpHeader text line) (collect how Titled ws)
plain_from Req text line how ws = titles (word Req text line) (collect how Titled ws)
plain_from Pxy text line how ws = titles (word Pxy text line) (collect how Titled ws)
plain_from Vendor text line how ws = titles (word Vendor text line) (collect how Titled ws)
plain_from Enumerated text line how ws = titles (word Enumerated text line) (collect how Titled ws)
plain_from symbols.Err text line how ws = titles (word symbols.Err text line) (collect how Titled ws)
plain_from _ text line how ws = tt

-- what the tokens tell from a place where an item may begin
pub plain : (how : Reading) (ws : List Word) → IfOk (collect how Text ws) IsPlain
plain how [] = refl
plain how (w ∷ ws) = plain_from w.symbol w.text w.line how ws
