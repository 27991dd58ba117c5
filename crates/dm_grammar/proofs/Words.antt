-- A word that isn't digits alone is a name.
use Rattle.std.proofs.Common.{◌≡◌, ℕ, List, nat_eq, codes, Bool, true, false, refl, if◌then◌else◌}
use Rattle.std.specs.Cmp.Lexicographic.{pointwise}
use Rattle.dm_grammar.specs.declared.symbol.Symbol.{Symbol}
use Rattle.dm_grammar.specs.declared.symbol.Symbol.TheVariants as symbols
use Rattle.dm_grammar.specs.Symbols.{is_digits, symbol_of_word}
use Rattle.dm_grammar.specs.Grammar.{is_name_symbol}

-- either of two names
one_of : (b : Bool) (s t : Symbol) → is_name_symbol s ≡ true → is_name_symbol t ≡ true → is_name_symbol (if b then s else t) ≡ true
one_of true s t e f = e
one_of false s t e f = f

abbrev is : List ℕ → List ℕ → Bool
is word spelled = pointwise nat_eq word spelled

by_words : (word : List ℕ) (b : Bool) → b ≡ false →
    is_name_symbol (if b then symbols.Number else
    if is word (codes "Diameter") then symbols.Diameter else
    if is word (codes "Header") then symbols.Header else
    if is word (codes "Diameter-Header") then symbols.DiameterHeader else
    if is word (codes "AVP") then symbols.Avp else
    if is word (codes "AVP-Header") then symbols.AvpHeader else
    if is word (codes "REQ") then symbols.Req else
    if is word (codes "PXY") then symbols.Pxy else
    if is word (codes "ERR") then symbols.Err else
    if is word (codes "vendor") then symbols.Vendor else
    if is word (codes "Enumerated") then symbols.Enumerated else symbols.Name) ≡ true
by_words word true e = absurd cc
by_words word false e =
    one_of (is word (codes "Diameter")) symbols.Diameter _ refl
    (one_of (is word (codes "Header")) symbols.Header _ refl
    (one_of (is word (codes "Diameter-Header")) symbols.DiameterHeader _ refl
    (one_of (is word (codes "AVP")) symbols.Avp _ refl
    (one_of (is word (codes "AVP-Header")) symbols.AvpHeader _ refl
    (one_of (is word (codes "REQ")) symbols.Req _ refl
    (one_of (is word (codes "PXY")) symbols.Pxy _ refl
    (one_of (is word (codes "ERR")) symbols.Err _ refl
    (one_of (is word (codes "vendor")) symbols.Vendor _ refl
    (one_of (is word (codes "Enumerated")) symbols.Enumerated symbols.Name refl refl)))))))))

pub name_symbol : (word : List ℕ) → is_digits word ≡ false → is_name_symbol (symbol_of_word word) ≡ true
name_symbol word h = by_words word (is_digits word) h
