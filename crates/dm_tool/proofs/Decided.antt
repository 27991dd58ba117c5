-- Whether a word tells a number, the code of an AVP or its data, and which.
use Rattle.std.proofs.Common.{◌≡◌, ◌<◌, ◌⊎◌, inl, inr, ◌+◌, ◌-◌, ℕ, zero, suc, Bool, true, false, nat_eq, nat_lt}
use Rattle.std.proofs.Common.{nat_le, List, [], ◌∷◌, length, take, drop, codes, Option, Some, None, Result, Ok, Err}
use Rattle.std.proofs.Common.{slice_index, arith, ap, ◌∙◌, sym, refl}
use Rattle.std.specs.List.{list_all, position}
use Rattle.std.specs.Str.Parse.{AllDigits, digits_value}
use Rattle.std.specs.Char.{digit_value}
use Rattle.std.proofs.lemmas.Bool.{cases_eq, ltb-true, ltb-false, leb-true, leb-false, lt-ltb, and_parts, and_from}
use Rattle.hex.specs.Hex.{IsBytes, decode_of}
use Rattle.hex.specs.declared.FromHexError.{FromHexError}
use Rattle.hex.proofs.HexLemmas.{decode_of-ok}
use Rattle.dm_text.specs.Numbers.{TellsNumber}
use Rattle.dm_tool.specs.AvpWords.{TellsCode, TellsData}
use Rattle.dm_tool.proofs.Slashes.{with_slash, without_slash, cut}

-- the statement or its contrary
abbrev pub Decided : Type 0 → Type 0
Decided A = A ⊎ (A → ⊥)

-- each number is below 256
abbrev pub are_octets : List ℕ → Bool
are_octets s = list_all (λ b. nat_lt b 256) s

pub octets_at : (s : List ℕ) → are_octets s ≡ true → (i : ℕ) → slice_index s i < 256
octets_at [] h i = omega arith
octets_at (b ∷ s) h zero = ltb-true b 256 (and_parts (nat_lt b 256) (are_octets s) h).0
octets_at (b ∷ s) h (suc i) = octets_at s (and_parts (nat_lt b 256) (are_octets s) h).1 i

pub octets_from : (s : List ℕ) → IsBytes s → are_octets s ≡ true
octets_from [] h = refl
octets_from (b ∷ s) h = and_from (nat_lt b 256) (are_octets s) (lt-ltb b 256 (h 0)) (octets_from s (λ i. h (suc i)))

pub same_words : (s t : List ℕ) → Decided (s ≡ t)
same_words [] [] = inl refl
same_words [] (b ∷ t) = inr (λ e. cc)
same_words (a ∷ s) [] = inr (λ e. cc)
same_words (a ∷ s) (b ∷ t) = by (cases_eq a b) (same_words s t) where
  by : Decided (a ≡ b) → Decided (s ≡ t) → Decided (a ∷ s ≡ b ∷ t)
  by (inl h) (inl k) = inl (ap (λ v. v ∷ s) h ∙ ap (λ v. b ∷ v) k)
  by (inl h) (inr k) = inr (λ e. k (cc))
  by (inr h) k = inr (λ e. h (cc))

digits : (s : List ℕ) → Decided (AllDigits 10 s)
digits [] = inl tt
digits (c ∷ s) = by (nat_lt (digit_value c) 10) refl (digits s) where
  by : (v : Bool) → nat_lt (digit_value c) 10 ≡ v → Decided (AllDigits 10 s) → Decided (AllDigits 10 (c ∷ s))
  by true is (inl h) = inl (ltb-true (digit_value c) 10 is, h)
  by true is (inr h) = inr (λ all. h all.1)
  by false is h = inr (λ all. let most = ltb-false (digit_value c) 10 is in absurd (omega (arith, most, all.0)))

pub number_told : (word : List ℕ) → ((n : ℕ) × TellsNumber n word) ⊎ ((n : ℕ) → TellsNumber n word → ⊥)
number_told [] = inr (λ n told. absurd (omega (arith, told.0.0)))
number_told (c ∷ s) = by (digits (c ∷ s)) (nat_le (digits_value 10 (c ∷ s)) 4294967295) refl where
  by : Decided (AllDigits 10 (c ∷ s)) → (v : Bool) → nat_le (digits_value 10 (c ∷ s)) 4294967295 ≡ v
      → ((n : ℕ) × TellsNumber n (c ∷ s)) ⊎ ((n : ℕ) → TellsNumber n (c ∷ s) → ⊥)
  by (inl h) true is =
      inl (digits_value 10 (c ∷ s), ((omega arith, h), refl, leb-true (digits_value 10 (c ∷ s)) 4294967295 is))
  by (inl h) false is =
      inr (λ n told. let above = leb-false (digits_value 10 (c ∷ s)) 4294967295 is in
      absurd (omega (arith, above, told.1, told.2)))
  by (inr h) v is = inr (λ n told. h told.0.1)

abbrev slash_place : List ℕ → Option ℕ
slash_place word = position (λ b. nat_eq b 47) word

abbrev back : List ℕ → ℕ → List ℕ
back word n = take (length word - (n + 1)) (drop (n + 1) word)

abbrev pub CodeTold : List ℕ → Type 0
CodeTold word = ((c : ℕ) × (v : Option ℕ) × TellsCode c v word) ⊎ ((c : ℕ) (v : Option ℕ) → TellsCode c v word → ⊥)

abbrev NumberTold : List ℕ → Type 0
NumberTold word = ((n : ℕ) × TellsNumber n word) ⊎ ((n : ℕ) → TellsNumber n word → ⊥)

code_alone : (word : List ℕ) → slash_place word ≡ None → NumberTold word → CodeTold word
code_alone word found (inl h) = inl (h.0, None, h.1)
code_alone word found (inr h) = inr (λ c v told. h c (without_slash word c v found told).1)

code_with_vendor : (word : List ℕ) (n : ℕ) → slash_place word ≡ Some n → NumberTold (take n word)
    → NumberTold (back word n) → CodeTold word
code_with_vendor word n found (inl h) (inl k) =
    inl (h.0, Some k.0, (take n word, back word n, cut word n found, h.1, k.1))
code_with_vendor word n found (inl h) (inr k) =
    inr (λ c v told. let parts = with_slash word n c v found told in k parts.0 parts.3)
code_with_vendor word n found (inr h) k = inr (λ c v told. h c (with_slash word n c v found told).2)

pub code_told : (word : List ℕ) → CodeTold word
code_told word = by (slash_place word) refl where
  by : (p : Option ℕ) → slash_place word ≡ p → CodeTold word
  by None found = code_alone word found (number_told word)
  by (Some n) found = code_with_vendor word n found (number_told (take n word)) (number_told (back word n))

abbrev pub DataTold : List ℕ → Type 0
DataTold word = ((d : List ℕ) × TellsData d word × (are_octets d ≡ true)) ⊎ ((d : List ℕ) → TellsData d word → ⊥)

no_data : (word d : List ℕ) (e : FromHexError) → (word ≡ codes "-" → ⊥) → decode_of word ≡ Err e → TellsData d word → ⊥
no_data word d e none is (inl h) = let both = sym is ∙ h in cc
no_data word d e none is (inr h) = none h.0

pub data_told : (word : List ℕ) → DataTold word
data_told word = by (same_words word (codes "-")) (decode_of word) refl where
  by : Decided (word ≡ codes "-") → (r : Result (List ℕ) FromHexError) → decode_of word ≡ r → DataTold word
  by (inl h) r is = inl ([], inr (h, refl), refl)
  by (inr h) (Ok d) is = inl (d, inl is, octets_from d (decode_of-ok word d is).3)
  by (inr h) (Err e) is = inr (λ d told. no_data word d e h is told)
