-- Lanes of two vectors by turns, and digits that are put sixteen octets at a time.
use Rattle.std.proofs.Common.{◌≡◌, ◌≤◌, ◌+◌, ◌*◌, ◌∙◌, ℕ, List, [], ◌∷◌, ◌++◌, length, take, drop, map, append_assoc, subst, ap, sym, refl, arith}
use Rattle.std.proofs.lemmas.Simd.{pick_l_whole, length-put_chunk, take_more_put_chunk, chunk-drop}
use Rattle.std.specs.List.{range_with_len}
use Rattle.std.specs.Simd.Lanes.{chunk, pick_l, put_chunk}
use Rattle.hex.specs.Hex.{encode_lower, encode_with}
use Rattle.dm_text.specs.Hexadecimal.{high_digit, low_digit}
use Rattle.dm_text.specs.SideBySide.{by_turns, PutUpTo}

-- the positions of lanes by turns, of the first sixteen that come of two vectors, and of the others
abbrev fronts : List ℕ
fronts = 0 ∷ 16 ∷ 1 ∷ 17 ∷ 2 ∷ 18 ∷ 3 ∷ 19 ∷ 4 ∷ 20 ∷ 5 ∷ 21 ∷ 6 ∷ 22 ∷ 7 ∷ 23 ∷ []

abbrev backs : List ℕ
backs = 8 ∷ 24 ∷ 9 ∷ 25 ∷ 10 ∷ 26 ∷ 11 ∷ 27 ∷ 12 ∷ 28 ∷ 13 ∷ 29 ∷ 14 ∷ 30 ∷ 15 ∷ 31 ∷ []

abbrev Turned : List ℕ → List ℕ → Type 0
Turned xs ys = pick_l 0 (xs ++ ys) fronts ++ pick_l 0 (xs ++ ys) backs ≡ by_turns xs ys

pub turned : (xs ys : List ℕ) → length xs ≡ 16 → length ys ≡ 16
    → pick_l 0 (xs ++ ys) fronts ++ pick_l 0 (xs ++ ys) backs ≡ by_turns xs ys
turned xs ys long wide =
    subst (λ v. Turned v ys) (pick_l_whole 0 xs 16 long)
    (subst (λ v. Turned (pick_l 0 xs (range_with_len 0 16)) v) (pick_l_whole 0 ys 16 wide) refl)

-- the digits of octets are those of their halves by turns
encoded_by_turns : (octets : List ℕ) → encode_lower octets ≡ by_turns (map high_digit octets) (map low_digit octets)
unfolding encode_with
encoded_by_turns [] = refl
encoded_by_turns (b ∷ octets) = ap (λ l. high_digit b ∷ low_digit b ∷ l) (encoded_by_turns octets)

encoded_behind : (octets more : List ℕ) → encode_lower (octets ++ more) ≡ encode_lower octets ++ encode_lower more
unfolding encode_with
encoded_behind [] more = refl
encoded_behind (b ∷ octets) more = ap (λ l. high_digit b ∷ low_digit b ∷ l) (encoded_behind octets more)

-- one run more is put
pub put_run : (octets room front back : List ℕ) (i j m next : ℕ) → j ≡ 2 * i → m ≡ j + 16 → next ≡ i + 16
    → next ≤ length octets → length room ≡ 2 * length octets → length front ≡ 16 → length back ≡ 16
    → front ++ back ≡ by_turns (map high_digit (chunk i 16 octets)) (map low_digit (chunk i 16 octets))
    → PutUpTo octets room i → PutUpTo octets (put_chunk m (put_chunk j room front) back) next
put_run octets room front back i j m next twice half is within twofold long wide turns put =
    let run = chunk i 16 octets in
    let left = encode_lower (drop next octets) in
    let same_room = length-put_chunk j room front in
    let first : take m (put_chunk j room front) ≡ take j room ++ front =
    take_more_put_chunk j room front m (omega (arith, half, long)) (omega (arith, twofold, within, is, twice, half)) in
    let second : take (2 * next) (put_chunk m (put_chunk j room front) back) ≡ take m (put_chunk j room front) ++ back =
    take_more_put_chunk m (put_chunk j room front) back (2 * next) (omega (arith, half, wide, is, twice))
    (omega (arith, same_room, twofold, within)) in
    let behind : encode_lower (drop i octets) ≡ (front ++ back) ++ left =
    ap encode_lower (chunk-drop i 16 octets) ∙ encoded_behind run (drop (i + 16) octets)
    ∙ ap (λ l. l ++ encode_lower (drop (i + 16) octets)) (encoded_by_turns run ∙ sym turns)
    ∙ ap (λ n. (front ++ back) ++ encode_lower (drop n octets)) (sym is) in
    ap (λ l. l ++ left) (second ∙ ap (λ l. l ++ back) first ∙ append_assoc (take j room) front back)
    ∙ append_assoc (take j room) (front ++ back) left
    ∙ ap (λ l. take j room ++ l) (sym behind)
    ∙ ap (λ n. take n room ++ encode_lower (drop i octets)) twice
    ∙ put
