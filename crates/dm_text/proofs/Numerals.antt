-- Numbers, digit by digit.
use Rattle.std.proofs.Common.{◌≡◌, ◌<◌, ◌+◌, ◌-◌, ◌*◌, ℕ, length, get_or, take, List, arith, ap, ◌∙◌, sym}
use Rattle.std.specs.Int.{IsInRange}
use Rattle.std.specs.Char.{digit_value}
use Rattle.std.specs.Str.Parse.{AllDigits, digits_value}
use Rattle.std.proofs.lemmas.Int.Digits.{digits_more, digits_value_more}
use Rattle.std.proofs.lemmas.Str.{digit_value_digit}
use Rattle.std.proofs.lemmas.Str.Parse.{digits_value-take-le}
use Rattle.dm_text.specs.Numbers.{TellsUpTo}

-- one more digit
pub digit-more : (word : List ℕ) (i number digit : ℕ) → i < length word → AllDigits 10 (take i word) →
    number ≡ digits_value 10 (take i word)
    → IsInRange 48 57 (get_or word i 0) → digit ≡ get_or word i 0 - 48
    → AllDigits 10 (take (i + 1) word) × (number * 10 + digit ≡ digits_value 10 (take (i + 1) word))
digit-more word i number digit below all value range is =
    let one = digit_value_digit (get_or word i 0) range in
    let small : digit_value (get_or word i 0) < 10 = omega (arith, one, range) in
    let same : digit ≡ digit_value (get_or word i 0) = omega (arith, one, is) in (
      digits_more 10 word i below all small,
      ap (λ v. v * 10 + digit) value ∙
          ap (λ v. digits_value 10 (take i word) * 10 + v) same ∙ sym (digits_value_more 10 word i below),
    )

-- a number that is too great in its first digits is too great
pub great : (word : List ℕ) (i number n most : ℕ) → number ≡ digits_value 10 (take i word) → most < number →
    TellsUpTo most n word → ⊥
great word i number n most value more told = let le = digits_value-take-le 10 word i (omega arith) in
    omega (arith, le, value, more, told.1, told.2)
