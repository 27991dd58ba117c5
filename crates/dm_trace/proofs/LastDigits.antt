-- Digits that are put from the last one on.
use Rattle.std.proofs.Common.{◌≡◌, ◌<◌, ◌≤◌, ◌+◌, ◌-◌, ◌/◌, ◌%◌, ◌∙◌, ℕ, zero, suc, List, [], ◌∷◌, ◌++◌, length, drop, slice_set, append_assoc, ap, sym, arith}
use Rattle.std.proofs.lemmas.List.{drop-set}
use Rattle.std.proofs.lemmas.Str.{IsUtf8-from_ascii, IsAscii-append}
use Rattle.std.specs.Str.{IsAscii, IsUtf8}
use Rattle.dm_trace.specs.Digits.{last_digits}

-- the last digit stands behind the others
pub last_digits_step : (start left : ℕ) → 0 < start
    → last_digits start left ≡ last_digits (start - 1) (left / 10) ++ (48 + left % 10) ∷ []
unfolding last_digits
last_digits_step zero left some = absurd (omega (arith, some))
last_digits_step (suc m) left some =
    let before : m ≡ suc m - 1 = omega arith in ap (λ k. last_digits k (left / 10) ++ (48 + left % 10) ∷ []) before

-- one digit more is put
pub one_digit_put : (start left : ℕ) (room all : List ℕ) → 0 < start → start ≤ length room
    → last_digits start left ++ drop start room ≡ all
    → last_digits (start - 1) (left / 10) ++ drop (start - 1) (slice_set room (start - 1) (48 + left % 10)) ≡ all
one_digit_put start left room all some within put =
    let next : start - 1 + 1 ≡ start = omega arith in
    let last = 48 + left % 10 in
    ap (λ l. last_digits (start - 1) (left / 10) ++ l)
    (drop-set room (start - 1) last (omega arith) ∙ ap (λ k. last ∷ drop k room) next)
    ∙ sym (append_assoc (last_digits (start - 1) (left / 10)) (last ∷ []) (drop start room))
    ∙ ap (λ l. l ++ drop start room) (sym (last_digits_step start left some))
    ∙ put

-- where no place is left
pub all_digits_put : (start left : ℕ) (room all : List ℕ) → start ≤ 0
    → last_digits start left ++ drop start room ≡ all → room ≡ all
unfolding last_digits
all_digits_put zero left room all none put = put
all_digits_put (suc m) left room all none put = absurd (omega (arith, none))

digit_is_ascii : (n : ℕ) → IsAscii ((48 + n % 10) ∷ [])
digit_is_ascii n zero = omega arith
digit_is_ascii n (suc k) = omega arith

digits_are_ascii : (count n : ℕ) → IsAscii (last_digits count n)
unfolding last_digits
digits_are_ascii zero n = λ k. omega arith
digits_are_ascii (suc count) n = IsAscii-append _ _ (digits_are_ascii count (n / 10)) (digit_is_ascii n)

pub digits_are_text : (count n : ℕ) → IsUtf8 (last_digits count n)
digits_are_text count n = IsUtf8-from_ascii _ (digits_are_ascii count n)
