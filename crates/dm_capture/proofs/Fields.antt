-- Numbers at the front of octets are those of the octets.
use Rattle.std.proofs.Common.{◌≡◌, ◌≤◌, ℕ, ◌+◌, List, ◌++◌, length, take, drop, sym, ◌∙◌, ap, arith}
use Rattle.std.proofs.lemmas.List.{take-append-drop, length-take-le, length-drop, drop-append-le}
use Rattle.byteorder.specs.Numbers.{big_from-append, little_from-append}
use Rattle.dm_capture.specs.declared.order.Order.{Order}
use Rattle.dm_capture.specs.declared.order.Order.TheVariants.{Big, Little}
use Rattle.dm_capture.specs.Numbers.{ordered_number}

pub number_joined : (order : Order) (k : ℕ) (xs ys : List ℕ) → k ≤ length xs →
    ordered_number order k (xs ++ ys) ≡ ordered_number order k xs
number_joined Big k xs ys h = big_from-append k xs ys h
number_joined Little k xs ys h = little_from-append k xs ys h

-- a number that stands in the first n octets
pub number_front : (order : Order) (k i n : ℕ) (s : List ℕ) → i + k ≤ n → n ≤ length s →
    ordered_number order k (drop i (take n s)) ≡ ordered_number order k (drop i s)
number_front order k i n s within has =
    let size : length (take n s) ≡ n = length-take-le n s has in
    let whole : drop i s ≡ drop i (take n s) ++ drop n s =
    ap (λ l. drop i l) (sym (take-append-drop n s)) ∙
    drop-append-le i (take n s) (drop n s) (omega (arith, size)) in
    sym (ap (λ l. ordered_number order k l) whole ∙
    number_joined order k (drop i (take n s)) (drop n s) (omega (arith, size, length-drop i (take n s))))
