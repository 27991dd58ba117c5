-- What a token of the dictionary text is.
use Rattle.std.specs.Prelude.{ℕ, Bool, ◌||◌, not, nat_eq, List, [], ◌∷◌, codes, if◌then◌else◌}
use Rattle.std.specs.Char.{is_ascii_alphanumeric, is_ascii_digit}
use Rattle.std.specs.List.{list_all}
use Rattle.std.specs.Cmp.Lexicographic.{pointwise}
use Rattle.dm_grammar.specs.declared.symbol.KeyWord.{KeyWord}
use Rattle.dm_grammar.specs.declared.symbol.Symbol.{Symbol}
use Rattle.dm_grammar.specs.declared.symbol.Symbol.TheVariants.{Less, Greater, OpenBrace, CloseBrace, OpenSquare}
use Rattle.dm_grammar.specs.declared.symbol.Symbol.TheVariants.{CloseSquare, Star, Comma, Colon, At, Number, Name}
use Rattle.dm_grammar.specs.declared.symbol.Symbol.TheVariants.{Diameter, Header, DiameterHeader, Avp, AvpHeader}
use Rattle.dm_grammar.specs.declared.symbol.Symbol.TheVariants.{Req, Pxy, Err, Vendor, Enumerated, Stray}

-- a word begins with a letter or a digit
abbrev pub begins_word : ℕ → Bool
begins_word c = is_ascii_alphanumeric c

-- and goes on with letters, digits and hyphens
abbrev pub goes_on : ℕ → Bool
goes_on c = is_ascii_alphanumeric c || nat_eq c 45

-- a space, a tab or a carriage return
abbrev pub is_space : ℕ → Bool
is_space c = nat_eq c 32 || nat_eq c 9 || nat_eq c 13

abbrev pub is_line_feed : ℕ → Bool
is_line_feed c = nat_eq c 10

abbrev pub not_line_end : ℕ → Bool
not_line_end c = not (nat_eq c 10)

-- the marks of one octet, and their symbols
abbrev pub mark_symbols : List (ℕ × Symbol)
mark_symbols =
    (60, Less) ∷ (62, Greater) ∷ (123, OpenBrace) ∷ (125, CloseBrace) ∷ (91, OpenSquare) ∷ (93, CloseSquare)
    ∷ (42, Star) ∷ (44, Comma) ∷ (58, Colon) ∷ (64, At) ∷ []

-- the symbol of the first mark that is the octet; another octet begins no token
abbrev pub mark_among : List (ℕ × Symbol) → ℕ → Symbol
mark_among [] c = Stray
mark_among (row ∷ rows) c = if nat_eq c row.0 then row.1 else mark_among rows c

abbrev pub mark_of : ℕ → Symbol
mark_of c = mark_among mark_symbols c

-- digits alone
abbrev pub is_digits : List ℕ → Bool
is_digits word = list_all is_ascii_digit word

abbrev is_word : List ℕ → List ℕ → Bool
is_word word spelled = pointwise nat_eq word spelled

-- the words that have a place of their own in the grammar
abbrev pub key_words : List (List ℕ × Symbol)
key_words =
    (codes "Diameter", Diameter) ∷ (codes "Header", Header) ∷ (codes "Diameter-Header", DiameterHeader)
    ∷ (codes "AVP", Avp) ∷ (codes "AVP-Header", AvpHeader) ∷ (codes "REQ", Req) ∷ (codes "PXY", Pxy)
    ∷ (codes "ERR", Err) ∷ (codes "vendor", Vendor) ∷ (codes "Enumerated", Enumerated) ∷ []

abbrev pub key_word : KeyWord → List ℕ × Symbol
key_word row = (row.word.now, row.symbol)

-- the symbol of the first key word that is the word; any other word is a name
abbrev pub symbol_among : List (List ℕ × Symbol) → List ℕ → Symbol
symbol_among [] word = Name
symbol_among (row ∷ rows) word = if is_word word row.0 then row.1 else symbol_among rows word

-- what a word is
abbrev pub symbol_of_word : List ℕ → Symbol
symbol_of_word word = if is_digits word then Number else symbol_among key_words word
