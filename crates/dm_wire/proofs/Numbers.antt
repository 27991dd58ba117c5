-- Numbers in network byte order, read and written again.
use Rattle.std.proofs.Common.{◌≡◌, ◌<◌, ◌≤◌, ℕ, ◌+◌, ◌*◌, ◌/◌, ◌%◌, List, [], ◌∷◌, length, take, drop, refl, arith, slice_index, Fits, w8, Bool, true, false, not, nat_eq, ap, eqb-true}
use Rattle.std.proofs.Math.Facts.{Fits-lt-pow}
use Rattle.byteorder.specs.Endian.{big_number}
use Rattle.dm_wire.specs.Spelling.{be}

-- each number of the list is below 256
abbrev pub IsOctets : List ℕ → Type 0
IsOctets s = (i : ℕ) → slice_index s i < 256

-- what a program knows of its octets
pub fit-octets : (s : List ℕ) → ((i : ℕ) → Fits w8 (slice_index s i)) → IsOctets s
fit-octets s h i = Fits-lt-pow (h i)

-- the four octets of the number that the first four octets are
pub be-big_number-4 : (s : List ℕ) → IsOctets s → 4 ≤ length s → be (big_number 4 s) 4 ≡ take 4 s
be-big_number-4 [] o h = absurd (omega arith)
be-big_number-4 (a ∷ []) o h = absurd (omega arith)
be-big_number-4 (a ∷ b ∷ []) o h = absurd (omega arith)
be-big_number-4 (a ∷ b ∷ c ∷ []) o h = absurd (omega arith)
be-big_number-4 (a ∷ b ∷ c ∷ d ∷ r) o h =
    let ha : a < 256 = o 0 in
    let hb : b < 256 = o 1 in
    let hc : c < 256 = o 2 in
    let hd : d < 256 = o 3 in
    let n : ℕ = a * 16777216 + (b * 65536 + (c * 256 + (d * 1 + 0))) in
    let ea : n / 16777216 % 256 ≡ a = omega arith in
    let eb : n / 65536 % 256 ≡ b = omega arith in
    let ec : n / 256 % 256 ≡ c = omega arith in
    let ed : n % 256 ≡ d = omega arith in
    rw (ea, eb, ec, ed) refl

-- the three octets of the number that the first three octets are
pub be-big_number-3 : (s : List ℕ) → IsOctets s → 3 ≤ length s → be (big_number 3 s) 3 ≡ take 3 s
be-big_number-3 [] o h = absurd (omega arith)
be-big_number-3 (a ∷ []) o h = absurd (omega arith)
be-big_number-3 (a ∷ b ∷ []) o h = absurd (omega arith)
be-big_number-3 (a ∷ b ∷ c ∷ r) o h =
    let ha : a < 256 = o 0 in
    let hb : b < 256 = o 1 in
    let hc : c < 256 = o 2 in
    let n : ℕ = a * 65536 + (b * 256 + (c * 1 + 0)) in
    let ea : n / 65536 % 256 ≡ a = omega arith in
    let eb : n / 256 % 256 ≡ b = omega arith in
    let ec : n % 256 ≡ c = omega arith in
    rw (ea, eb, ec) refl

-- a number that isn't 0 fails the test for 0
pub not_zero : (n : ℕ) → (n ≡ 0 → ⊥) → not (nat_eq n 0) ≡ true
not_zero n h = go (nat_eq n 0) refl where
  go : (b : Bool) → nat_eq n 0 ≡ b → not (nat_eq n 0) ≡ true
  go true e = absurd (h (eqb-true n 0 e))
  go false e = ap not e

-- a number of four octets, parted behind the first
pub parted : (s : List ℕ) → IsOctets s → 4 ≤ length s →
    (big_number 4 s / 16777216 ≡ slice_index s 0) × (big_number 4 s % 16777216 ≡ big_number 3 (drop 1 s))
parted [] o h = absurd (omega arith)
parted (a ∷ []) o h = absurd (omega arith)
parted (a ∷ b ∷ []) o h = absurd (omega arith)
parted (a ∷ b ∷ c ∷ []) o h = absurd (omega arith)
parted (a ∷ b ∷ c ∷ d ∷ r) o h =
    let hb : b < 256 = o 1 in
    let hc : c < 256 = o 2 in
    let hd : d < 256 = o 3 in
    let n : ℕ = a * 16777216 + (b * 65536 + (c * 256 + (d * 1 + 0))) in
    let front : n / 16777216 ≡ a = omega arith in
    let behind : n % 16777216 ≡ b * 65536 + (c * 256 + (d * 1 + 0)) = omega arith in
    (front, behind)
