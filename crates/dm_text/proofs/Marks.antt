-- Marks of digits: which are good, and what two of them stand for.
use Rattle.std.proofs.Common.{◌≡◌, ◌<◌, ◌≤◌, ◌*◌, ◌+◌, ◌%◌, ◌^◌, ℕ, List, [], ◌∷◌, ◌++◌}
use Rattle.std.proofs.Common.{cond, ltb, leb, length, map, subst, refl, arith, ap, ◌∙◌, w8, Fits, replicate}
use Rattle.std.proofs.lemmas.List.{length-append, map-append}
use Rattle.std.proofs.lemmas.Simd.{pick_l_whole}
use Rattle.std.specs.List.{range_with_len}
use Rattle.std.specs.Simd.Lanes.{Each1, pick_l, sel_l, zip2}
use Rattle.dm_text.specs.SideBySide.{bad_lanes, bad_marks, paired, worth_of_mark}

-- the first mark is good, and the others
pub first_mark : (mark others : ℕ) → cond (ltb mark 240) 1 0 + 2 * others ≡ 0 → (240 ≤ mark) × (others ≡ 0)
first_mark mark others none = grind (arith, none)

pub good_mark : (mark others : ℕ) → 240 ≤ mark → others ≡ 0 → cond (ltb mark 240) 1 0 + 2 * others ≡ 0
good_mark mark others more none = grind (arith, more, none)

lower_mark : (x y : ℕ) → 240 ≤ cond (ltb x y) x y → (240 ≤ x) × (240 ≤ y)
lower_mark x y more = grind (arith, more)

mark_lower : (x y : ℕ) → 240 ≤ x → 240 ≤ y → 240 ≤ cond (ltb x y) x y
mark_lower x y more most = grind (arith, more, most)

abbrev pub lower_lanes : List ℕ → List ℕ → List ℕ
lower_lanes xs ys = sel_l (zip2 ltb xs ys) xs ys

pub lower_both : (xs ys : List ℕ) → length xs ≡ length ys → bad_marks (lower_lanes xs ys) ≡ 0
    → (bad_marks xs ≡ 0) × (bad_marks ys ≡ 0)
lower_both [] [] long none = (refl, refl)
lower_both [] (y ∷ ys) long none = absurd (omega (arith, long))
lower_both (x ∷ xs) [] long none = absurd (omega (arith, long))
lower_both (x ∷ xs) (y ∷ ys) long none =
    let (low, others) = first_mark (cond (ltb x y) x y) (bad_marks (lower_lanes xs ys)) none in
    let (more, most) = lower_mark x y low in
    let (left, right) = lower_both xs ys (omega (arith, long)) others in
    (good_mark x (bad_marks xs) more left, good_mark y (bad_marks ys) most right)

pub lower_each : (xs ys : List ℕ) → length xs ≡ length ys → bad_marks xs ≡ 0 → bad_marks ys ≡ 0
    → bad_marks (lower_lanes xs ys) ≡ 0
lower_each [] [] long left right = refl
lower_each [] (y ∷ ys) long left right = absurd (omega (arith, long))
lower_each (x ∷ xs) [] long left right = absurd (omega (arith, long))
lower_each (x ∷ xs) (y ∷ ys) long left right =
    let (more, others) = first_mark x (bad_marks xs) left in
    let (most, further) = first_mark y (bad_marks ys) right in
    good_mark (cond (ltb x y) x y) (bad_marks (lower_lanes xs ys)) (mark_lower x y more most)
    (lower_each xs ys (omega (arith, long)) others further)

same_bit : (mark : ℕ) → leb 16 (worth_of_mark mark) ≡ ltb mark 240
same_bit mark = grind (arith)

-- a bad mark's value is no digit's
pub bad_worths : (marks : List ℕ) → bad_lanes (map worth_of_mark marks) ≡ bad_marks marks
bad_worths [] = refl
bad_worths (mark ∷ marks) = rw (same_bit mark, bad_worths marks) refl

-- two marks as they are joined in lanes of octets
abbrev pub join : ℕ → ℕ → ℕ
join high low = ((high * 16 % 2 ^ 8 + low) % 2 ^ 8 + 16) % 2 ^ 8

abbrev pub joined_by_two : List ℕ → List ℕ
joined_by_two [] = []
joined_by_two (high ∷ []) = []
joined_by_two (high ∷ low ∷ marks) = join high low ∷ joined_by_two marks

two_marks : (high low : ℕ) → 240 ≤ high → high < 256 → 240 ≤ low → low < 256
    → join high low ≡ worth_of_mark high * 16 + worth_of_mark low
two_marks high low few small fewer smaller = grind (arith, few, small, fewer, smaller)

pub joined_good : (marks : List ℕ) → Each1 (Fits w8) marks → length marks % 2 ≡ 0 → bad_marks marks ≡ 0
    → joined_by_two marks ≡ paired (map worth_of_mark marks)
joined_good [] fits even none = refl
joined_good (a ∷ []) fits even none = absurd (omega (arith, even))
joined_good (a ∷ b ∷ marks) fits even none =
    let (few, more) = first_mark a (cond (ltb b 240) 1 0 + 2 * bad_marks marks) none in
    let (fewer, others) = first_mark b (bad_marks marks) more in
    rw (two_marks a b few fits.0.fits fewer fits.1.0.fits, joined_good marks fits.1.1 (omega (arith, even)) others) refl

pub bad_marks-append : (xs ys : List ℕ) → bad_marks xs ≡ 0 → bad_marks ys ≡ 0 → bad_marks (xs ++ ys) ≡ 0
bad_marks-append [] ys left right = right
bad_marks-append (x ∷ xs) ys left right =
    let (more, others) = first_mark x (bad_marks xs) left in
    good_mark x (bad_marks (xs ++ ys)) more (bad_marks-append xs ys others right)

pub fits-append : (xs ys : List ℕ) → Each1 (Fits w8) xs → Each1 (Fits w8) ys → Each1 (Fits w8) (xs ++ ys)
fits-append [] ys left right = right
fits-append (x ∷ xs) ys left right = (left.0, fits-append xs ys left.1 right)

-- the places of high digits and then of low ones, and those of the first eight lanes of two vectors and of the others
abbrev parted : List ℕ
parted = 0 ∷ 2 ∷ 4 ∷ 6 ∷ 8 ∷ 10 ∷ 12 ∷ 14 ∷ 1 ∷ 3 ∷ 5 ∷ 7 ∷ 9 ∷ 11 ∷ 13 ∷ 15 ∷ []

abbrev firsts : List ℕ
firsts = 0 ∷ 1 ∷ 2 ∷ 3 ∷ 4 ∷ 5 ∷ 6 ∷ 7 ∷ 16 ∷ 17 ∷ 18 ∷ 19 ∷ 20 ∷ 21 ∷ 22 ∷ 23 ∷ []

abbrev seconds : List ℕ
seconds = 8 ∷ 9 ∷ 10 ∷ 11 ∷ 12 ∷ 13 ∷ 14 ∷ 15 ∷ 24 ∷ 25 ∷ 26 ∷ 27 ∷ 28 ∷ 29 ∷ 30 ∷ 31 ∷ []

abbrev part : List ℕ → List ℕ
part xs = pick_l 0 (xs ++ xs) parted

abbrev sum_of : ℕ → ℕ → ℕ
sum_of a b = (a + b) % 2 ^ 8

abbrev product_of : ℕ → ℕ → ℕ
product_of a b = a * b % 2 ^ 8

abbrev pub in_lanes : List ℕ → List ℕ → List ℕ
in_lanes xs ys =
    zip2 sum_of (zip2 sum_of (zip2 product_of (pick_l 0 (part xs ++ part ys) firsts) (replicate 16 16))
    (pick_l 0 (part xs ++ part ys) seconds)) (replicate 16 16)

abbrev Joined : List ℕ → List ℕ → Type 0
Joined xs ys = in_lanes xs ys ≡ joined_by_two (xs ++ ys)

joined_in_lanes : (xs ys : List ℕ) → length xs ≡ 16 → length ys ≡ 16 → in_lanes xs ys ≡ joined_by_two (xs ++ ys)
joined_in_lanes xs ys long wide =
    subst (λ v. Joined v ys) (pick_l_whole 0 xs 16 long)
    (subst (λ v. Joined (pick_l 0 xs (range_with_len 0 16)) v) (pick_l_whole 0 ys 16 wide) refl)

pub joined_lanes : (xs ys : List ℕ) → length xs ≡ 16 → length ys ≡ 16 → Each1 (Fits w8) xs → Each1 (Fits w8) ys
    → bad_marks xs ≡ 0 → bad_marks ys ≡ 0 → in_lanes xs ys ≡ paired (map worth_of_mark xs ++ map worth_of_mark ys)
joined_lanes xs ys long wide fits small left right =
    joined_in_lanes xs ys long wide
    ∙ joined_good (xs ++ ys) (fits-append xs ys fits small) (omega (arith, length-append xs ys, long, wide)) (bad_marks-append xs ys left right)
    ∙ ap paired (map-append worth_of_mark xs ys)
