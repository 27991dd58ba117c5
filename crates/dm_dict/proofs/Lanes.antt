-- Octets that are looked at sixteen at once.
use Rattle.std.proofs.Common.{◌≡◌, ◌<◌, ◌≤◌, ◌+◌, ◌-◌, ◌*◌, ◌%◌, ◌∙◌, ℕ, zero, suc, Bool, true, false, ◌&&◌, List, [], ◌∷◌, cond, nat_eq, ltb, length, take, drop, map, refl, sym, ap, arith, w8, Fits, inl, inr}
use Rattle.std.proofs.lemmas.Bool.{and_parts, cases_lt}
use Rattle.std.proofs.lemmas.Bool.Decides.{nat_tests}
use Rattle.std.proofs.lemmas.List.{length-drop, take-append-drop, take_all}
use Rattle.std.proofs.lemmas.List.Folds.{list_all-append}
use Rattle.std.proofs.lemmas.Simd.{tops_compared, zip2_of_maps}
use Rattle.std.specs.Int.{is_in_range}
use Rattle.std.specs.List.{list_all}
use Rattle.std.specs.Simd.Lanes.{Each1, chunk, mask_l, sel_l, top, zip2}
use Rattle.dm_dict.specs.Lanes.{is_unmarked}

-- a choice between lanes that are computed from the same
pub chosen : {A B : Type 0} (p : A → Bool) (f g : A → B) (v : List A) {ms : List Bool} {xs ys : List B} → ms ≡ map p v
    → xs ≡ map f v → ys ≡ map g v → sel_l ms xs ys ≡ map (λ a. cond (p a) (f a) (g a)) v
chosen {A = A} p f g v is also and = rw (is, also, and) (by v) where
  by : (v : List A) → sel_l (map p v) (map f v) (map g v) ≡ map (λ a. cond (p a) (f a) (g a)) v
  by [] = refl
  by (a ∷ v) = ap (λ l. cond (p a) (f a) (g a) ∷ l) (by v)

-- the bits of a comparison between lanes that are computed from the same
pub bits_of_maps : (f g : ℕ → ℕ) (v : List ℕ) {xs ys : List ℕ} → xs ≡ map f v → ys ≡ map g v
    → map (top 7) (zip2 (λ a b. cond (ltb a b) 255 0) xs ys) ≡ map (λ a. ltb (f a) (g a)) v
bits_of_maps f g v {xs} {ys} is also = tops_compared w8 ltb xs ys ∙ zip2_of_maps ltb f g v is also

-- ---- marks

bit_none : (m k : ℕ) → nat_eq (cond (ltb 0 m) 1 0 + 2 * k) 0 ≡ (nat_eq m 0 && nat_eq k 0)
bit_none m k = grind (arith, nat_tests)

-- no bit is set just where no mark is
pub no_bits : (marks : List ℕ) → nat_eq (mask_l (map (λ m. ltb 0 m) marks)) 0 ≡ is_unmarked marks
no_bits [] = refl
no_bits (m ∷ marks) = rw (bit_none m (mask_l (map (λ m. ltb 0 m) marks)), no_bits marks) refl

abbrev higher_lanes : List ℕ → List ℕ → List ℕ
higher_lanes xs ys = sel_l (zip2 ltb xs ys) ys xs

higher_none : (x y : ℕ) → nat_eq (cond (ltb x y) y x) 0 ≡ (nat_eq x 0 && nat_eq y 0)
higher_none x y = grind (arith, nat_tests)

crossed : (a b c d : Bool) → ((a && b) && (c && d)) ≡ ((a && c) && (b && d))
crossed true true c d = refl
crossed true false true d = refl
crossed true false false d = refl
crossed false b c d = refl

-- the higher marks are none just where all are none
pub higher_are_none : (xs ys : List ℕ) → length xs ≡ length ys
    → is_unmarked (higher_lanes xs ys) ≡ (is_unmarked xs && is_unmarked ys)
higher_are_none [] [] long = refl
higher_are_none [] (y ∷ ys) long = absurd (omega (arith, long))
higher_are_none (x ∷ xs) [] long = absurd (omega (arith, long))
higher_are_none (x ∷ xs) (y ∷ ys) long =
    rw (higher_none x y, higher_are_none xs ys (omega (arith, long)))
    (crossed (nat_eq x 0) (nat_eq y 0) (is_unmarked xs) (is_unmarked ys))

-- ---- octets of a range

abbrev pub less : ℕ → ℕ → ℕ
less a b = (a + (256 - b)) % 256

-- the mark of an octet, where what is subtracted is so much
abbrev pub mark : ℕ → ℕ → ℕ → ℕ
mark least span c = less (cond (ltb (less c least) span) span (less c least)) span

mark_tells : (least most c : ℕ) → c < 256 → least ≤ most → most < 256
    → nat_eq (mark least (most - least) c) 0 ≡ is_in_range least most c
mark_tells least most c small order high = elim (cases_lt c least) [
  | inl below ↦
      let moved : less c least ≡ c + (256 - least) = omega (arith, below) in
      grind (arith, nat_tests, moved)
  | inr above ↦
      let moved : less c least ≡ c - least = omega (arith, above) in
      grind (arith, nat_tests, moved)
]

pub marks_tell : (least most : ℕ) (v : List ℕ) → Each1 (Fits w8) v → least ≤ most → most < 256
    → list_all (λ c. nat_eq (mark least (most - least) c) 0) v ≡ list_all (is_in_range least most) v
marks_tell least most [] fits order high = refl
marks_tell least most (c ∷ v) fits order high =
    let small = fits.0.fits in
    rw (mark_tells least most c (omega (arith, small)) order high, marks_tell least most v fits.1 order high) refl

-- ---- parts of octets

pub all_of_take : (p : ℕ → Bool) (s : List ℕ) (n : ℕ) → list_all p s ≡ true → list_all p (take n s) ≡ true
all_of_take p s n all =
    (and_parts _ _ (sym (list_all-append p (take n s) (drop n s)) ∙ ap (list_all p) (take-append-drop n s) ∙ all)).0

pub all_of_drop : (p : ℕ → Bool) (s : List ℕ) (n : ℕ) → list_all p s ≡ true → list_all p (drop n s) ≡ true
all_of_drop p s n all =
    (and_parts _ _ (sym (list_all-append p (take n s) (drop n s)) ∙ ap (list_all p) (take-append-drop n s) ∙ all)).1

contrary : (a b : Bool) → (a ≡ true → b ≡ true) → b ≡ false → a ≡ false
contrary true b h is = absurd (let yes = h refl in cc)
contrary false b h is = refl

-- a run that isn't all of the range
pub run_fails : (p : ℕ → Bool) (s : List ℕ) (i : ℕ) → list_all p (chunk i 16 s) ≡ false → list_all p s ≡ false
run_fails p s i is =
    contrary (list_all p s) (list_all p (chunk i 16 s)) (λ all. all_of_take p (drop i s) 16 (all_of_drop p s i all)) is

-- one run more
pub run_more : (p : ℕ → Bool) (s : List ℕ) (i : ℕ) → list_all p (take i s) ≡ true → list_all p (chunk i 16 s) ≡ true
    → list_all p (take (i + 16) s) ≡ true
run_more p [] i front run = none (i + 16) where
  none : (n : ℕ) → list_all p (take n []) ≡ true
  none zero = refl
  none (suc n) = refl
run_more p (c ∷ s) zero front run = run
run_more p (c ∷ s) (suc i) front run =
    let (here, rest) = and_parts (p c) (list_all p (take i s)) front in
    let next : suc i + 16 ≡ suc (i + 16) = omega arith in
    rw (next, here) (run_more p s i rest run)

-- what is so in front and at the end, where these meet
pub all_of_both : (p : ℕ → Bool) (s : List ℕ) (n m : ℕ) → m ≤ n → list_all p (take n s) ≡ true
    → list_all p (drop m s) ≡ true → list_all p s ≡ true
all_of_both p s n zero meet front back = back
all_of_both p [] n (suc m) meet front back = refl
all_of_both p (c ∷ s) zero (suc m) meet front back = absurd (omega (arith, meet))
all_of_both p (c ∷ s) (suc n) (suc m) meet front back =
    let (here, rest) = and_parts (p c) (list_all p (take n s)) front in
    rw here (all_of_both p s n m (omega (arith, meet)) rest back)

-- ---- the first and the last run

last_run : (s : List ℕ) → 16 ≤ length s → chunk (length s - 16) 16 s ≡ drop (length s - 16) s
last_run s long = take_all 16 (drop (length s - 16) s) (omega (arith, length-drop (length s - 16) s))

pub ends_pass : (p : ℕ → Bool) (s : List ℕ) (marks : Bool) {a b : Bool} → 16 ≤ length s → marks ≡ (a && b)
    → a ≡ list_all p (chunk 0 16 s) → b ≡ list_all p (chunk (length s - 16) 16 s) → marks ≡ true
    → (list_all p (take 16 s) ≡ true) × (list_all p (drop (length s - 16) s) ≡ true)
ends_pass p s marks {a} {b} long is first last none =
    let (front, back) = and_parts a b (sym is ∙ none) in
    (sym first ∙ front, ap (list_all p) (sym (last_run s long)) ∙ sym last ∙ back)

pub ends_fail : (p : ℕ → Bool) (s : List ℕ) (marks : Bool) {a b : Bool} → marks ≡ (a && b)
    → a ≡ list_all p (chunk 0 16 s) → b ≡ list_all p (chunk (length s - 16) 16 s) → marks ≡ false
    → list_all p s ≡ false
ends_fail p s marks {a} {b} is first last some = by a b (sym is ∙ some) (sym first) (sym last) where
  by : (a b : Bool) → (a && b) ≡ false → list_all p (chunk 0 16 s) ≡ a → list_all p (chunk (length s - 16) 16 s) ≡ b
      → list_all p s ≡ false
  by false b is first last = run_fails p s 0 first
  by true false is first last = run_fails p s (length s - 16) last
  by true true is first last = absurd (cc)
