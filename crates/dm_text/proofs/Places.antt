-- Decimal digits that are put from the last one on.
use Rattle.std.proofs.Common.{◌≡◌, ◌<◌, ◌≤◌, ◌^◌, ◌+◌, ◌-◌, ◌*◌, ◌/◌, ◌%◌, ◌∙◌, ℕ, zero, suc, List, [], ◌∷◌, ◌++◌, length, drop, slice_set, append_assoc, ap, sym, arith}
use Rattle.std.proofs.Math.Nat.{pow-succ'}
use Rattle.std.proofs.lemmas.Fmt.{decimal_step}
use Rattle.std.proofs.lemmas.List.{drop-set}
use Rattle.std.specs.Fmt.{decimal}
use Rattle.dm_text.proofs.Texts.{one_digit}

-- a number of more than one digit has more than one place, and without its last one fits the places in front
pub more_places : (left start : ℕ) → 10 ≤ left → left < 10 ^ start → (1 < start) × (left / 10 < 10 ^ (start - 1))
more_places left zero more fits = absurd (omega (arith, more, fits))
more_places left (suc zero) more fits = absurd (omega (arith, more, fits))
more_places left (suc (suc m)) more fits =
    let ten : 10 ^ suc (suc m) ≡ 10 * 10 ^ suc m = pow-succ' 10 (suc m) in
    let places : suc (suc m) - 1 ≡ suc m = omega arith in
    let fewer : left / 10 < 10 ^ suc m = omega (arith, fits, ten) in
    (omega arith, rw places fewer)

-- one digit more is put
pub one_place : (number left start last : ℕ) (room : List ℕ) → 10 ≤ left → left < 2 ^ 64 → 0 < start → start ≤ length room
    → last ≡ 48 + left % 10 → decimal left ++ drop start room ≡ decimal number
    → decimal (left / 10) ++ drop (start - 1) (slice_set room (start - 1) last) ≡ decimal number
one_place number left start last room more fits some within is put =
    let next : start - 1 + 1 ≡ start = omega arith in
    ap (λ l. decimal (left / 10) ++ l) (drop-set room (start - 1) last (omega arith) ∙ ap (λ k. last ∷ drop k room) next)
    ∙ ap (λ d. decimal (left / 10) ++ d ∷ drop start room) is
    ∙ sym (append_assoc (decimal (left / 10)) ((48 + left % 10) ∷ []) (drop start room))
    ∙ ap (λ l. l ++ drop start room) (sym (decimal_step left more fits))
    ∙ put

-- the first digit is put
pub first_place : (number left start last : ℕ) (room : List ℕ) → left < 10 → 0 < start → start ≤ length room
    → last ≡ 48 + left % 10 → decimal left ++ drop start room ≡ decimal number
    → drop (start - 1) (slice_set room (start - 1) last) ≡ decimal number
first_place number left start last room few some within is put =
    let next : start - 1 + 1 ≡ start = omega arith in
    drop-set room (start - 1) last (omega arith) ∙ ap (λ k. last ∷ drop k room) next
    ∙ ap (λ d. d ∷ drop start room) is
    ∙ ap (λ l. l ++ drop start room) (sym (one_digit left few))
    ∙ put
