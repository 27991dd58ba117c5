-- Pairs of digits, read whether they are good or not.
use Rattle.std.proofs.Common.{◌≡◌, ◌<◌, ◌≤◌, ◌*◌, ◌+◌, ◌%◌, ◌⊎◌, inl, inr, ℕ, Bool, true, false, Option, Some, None, Result, Ok, Err, List, cond}
use Rattle.std.proofs.Common.{length, take, drop, slice_index, slice_set, max, nat_lt, refl, sym, arith, ap, ◌∙◌}
use Rattle.std.proofs.lemmas.Bool.{ltb-true, ltb-false}
use Rattle.std.specs.Prelude.{unwrap_or}
use Rattle.std.specs.Result.{result_ok}
use Rattle.hex.specs.Hex.{hex_digit_value, digit_or_error, value_at, pair_value, decode_pairs, ◌>>=◌}
use Rattle.hex.specs.declared.error.FromHexError.{FromHexError}
use Rattle.hex.specs.declared.error.FromHexError.TheVariants.{InvalidHexCharacter}
use Rattle.hex.proofs.HexLemmas.{decode_of-even}
use Rattle.hex.proofs.Pairs.{prepend, decode_step, decode_err, decode_done}
use Rattle.dm_text.specs.Hexadecimal.{digit_worth, word_octets}
use Rattle.dm_text.specs.SideBySide.{read_behind, ReadUpTo}

-- two words for the same
pub prepended : (front : List ℕ) (r : Result (List ℕ) FromHexError) → prepend front r ≡ read_behind front r
prepended front (Ok rest) = refl
prepended front (Err e) = refl

-- the worst digit is worth so much: where that is a digit's, these octets are read so far, and else none are
pub record DecodedSoFar (word octets : List ℕ) (i worst : ℕ) : Type 0 where
  pub good : worst ≤ 15 → decode_pairs 0 word ≡ prepend (take i octets) (decode_pairs (2 * i) (drop (2 * i) word))
  pub bad : 15 < worst → (e : FromHexError) × (decode_pairs 0 word ≡ Err e)

-- a digit's value is small
small : (c v : ℕ) → hex_digit_value c ≡ Some v → v < 16
small c v h = grind (arith, h)

-- what is worth less than 16 is a digit
digit_reads : (c i : ℕ) → digit_worth c ≤ 15 → value_at c i ≡ Ok (digit_worth c)
digit_reads c i = by (hex_digit_value c) where
  by : (v : Option ℕ) → unwrap_or v 255 ≤ 15 → digit_or_error c i v ≡ Ok (unwrap_or v 255)
  by (Some v) few = refl
  by None few = absurd (omega (arith, few))

-- what is worth more is none
digit_fails : (c i : ℕ) → 15 < digit_worth c → value_at c i ≡ Err (InvalidHexCharacter c i)
digit_fails c i = by (hex_digit_value c) refl where
  by : (v : Option ℕ) → hex_digit_value c ≡ v → 15 < unwrap_or v 255 →
      digit_or_error c i v ≡ Err (InvalidHexCharacter c i)
  by (Some v) is more = absurd (let less = small c v is in omega (arith, less, more))
  by None is more = refl

-- two digits are an octet
pub pair_reads : (a b i high low octet : ℕ) → high ≡ digit_worth a → low ≡ digit_worth b → high ≤ 15 → low ≤ 15
    → octet ≡ high % 16 * 16 + low % 16 → pair_value a b i ≡ Ok octet
pair_reads a b i high low octet is also few fewer whole =
    let first = digit_reads a i (rw (sym is) few) in
    let second = digit_reads b (i + 1) (rw (sym also) fewer) in
    let sum : octet ≡ digit_worth a * 16 + digit_worth b = omega (arith, is, also, few, fewer, whole) in
    rw (first, second, sum) refl

-- one of the two is no digit
pub pair_fails : (a b i high low : ℕ) → high ≡ digit_worth a → low ≡ digit_worth b → (15 < high) ⊎ (15 < low)
    → (e : FromHexError) × (pair_value a b i ≡ Err e)
pair_fails a b i high low is also (inl more) = (InvalidHexCharacter a i, rw (digit_fails a i (rw (sym is) more)) refl)
pair_fails a b i high low is also (inr more) = by (value_at a i) where
  by : (r : Result ℕ FromHexError) →
      (e : FromHexError) × ((r >>= (λ h. value_at b (i + 1) >>= (λ l. Ok (h * 16 + l)))) ≡ Err e)
  by (Ok h) = (InvalidHexCharacter b (i + 1), rw (digit_fails b (i + 1) (rw (sym also) more)) refl)
  by (Err e) = (e, refl)

pub decoded_up_to : (word octets : List ℕ) (i : ℕ) → ReadUpTo word octets i → DecodedSoFar word octets i 0
decoded_up_to word octets i read =
    record { good = λ _. read ∙ sym (prepended (take i octets) _); bad = λ more. absurd (omega (arith, more)) }

pub decoded_more : (word octets : List ℕ) (i worst next high low octet : ℕ) → DecodedSoFar word octets i worst
    → 2 * i + 1 < length word → i < length octets → high ≡ digit_worth (slice_index word (2 * i))
    → low ≡ digit_worth (slice_index word (2 * i + 1)) → octet ≡ high % 16 * 16 + low % 16
    → next ≡ max worst (max high low) → DecodedSoFar word (slice_set octets i octet) (i + 1) next
decoded_more word octets i worst next high low octet so within room is also whole most =
    record {
      good = λ few.
          decode_step word octets i octet within room
          (pair_reads (slice_index word (2 * i)) (slice_index word (2 * i + 1)) (2 * i) high low octet is also
          (omega (arith, few, most)) (omega (arith, few, most)) whole)
          (so.good (omega (arith, few, most)));
      bad = λ more. by (fails more);
    } where
      Refused : Type 0
      Refused = (e : FromHexError) × (decode_pairs 0 word ≡ Err e)

      fails : 15 < next → (15 < worst) ⊎ (worst ≤ 15) × ((15 < high) ⊎ (15 < low))
      fails more = grind (arith, more, most)

      by : (15 < worst) ⊎ (worst ≤ 15) × ((15 < high) ⊎ (15 < low)) → Refused
      by (inl more) = so.bad more
      by (inr (few, one)) =
          let no = pair_fails (slice_index word (2 * i)) (slice_index word (2 * i + 1)) (2 * i) high low is also one in
          (no.0, decode_err word octets i no.0 within no.1 (so.good few))

pub decoded_all : (word octets : List ℕ) (i worst : ℕ) → DecodedSoFar word octets i worst → length word ≡ 2 * length octets
    → length octets ≤ i → word_octets word ≡ cond (nat_lt worst 16) (Some octets) None
decoded_all word octets i worst so twice all = by (nat_lt worst 16) refl where
  even : word_octets word ≡ result_ok (decode_pairs 0 word)
  even = ap result_ok (decode_of-even word (omega (arith, twice)))

  by : (v : Bool) → nat_lt worst 16 ≡ v → word_octets word ≡ cond v (Some octets) None
  by true is =
      even ∙ ap result_ok (decode_done word octets i all (omega (arith, all, twice)) (so.good (let few = ltb-true worst 16 is in omega (arith, few))))
  by false is = let no = so.bad (let more = ltb-false worst 16 is in omega (arith, more)) in even ∙ ap result_ok no.1
