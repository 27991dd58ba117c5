-- Slots, one by one.
use Rattle.std.proofs.Common.{◌≡◌, ◌≤◌, ◌<◌, ℕ, zero, suc, ◌+◌, Option, None, Some, List, [], ◌∷◌, ◌++◌, map, length, drop, slice_get, refl, ◌∙◌, ap, arith}
use Rattle.dm_flows.specs.Windows.{first_known, slot}

pub known_none : (x : Option ℕ) → first_known x None ≡ x
known_none None = refl
known_none (Some octet) = refl

pub known_assoc : (x y z : Option ℕ) → first_known (first_known x y) z ≡ first_known x (first_known y z)
known_assoc None y z = refl
known_assoc (Some octet) y z = refl

-- past the end of a list nothing is there
pub get_past : {X : Type 0} (xs : List X) (k : ℕ) → length xs ≤ k → slice_get xs k ≡ None
get_past [] k h = refl
get_past (x ∷ xs) zero h = absurd (omega arith)
get_past (x ∷ xs) (suc k) h = get_past xs k (omega arith)

pub get_within : {X : Type 0} (xs : List X) (k : ℕ) → k < length xs → (x : X) × (slice_get xs k ≡ Some x)
get_within [] k h = absurd (omega arith)
get_within (x ∷ xs) zero h = (x, refl)
get_within (x ∷ xs) (suc k) h = get_within xs k (omega arith)

pub get_left : {X : Type 0} (xs ys : List X) (k : ℕ) → k < length xs → slice_get (xs ++ ys) k ≡ slice_get xs k
get_left [] ys k h = absurd (omega arith)
get_left (x ∷ xs) ys zero h = refl
get_left (x ∷ xs) ys (suc k) h = get_left xs ys k (omega arith)

pub get_right : {X : Type 0} (xs ys : List X) (k : ℕ) → slice_get (xs ++ ys) (length xs + k) ≡ slice_get ys k
get_right [] ys k = ap (λ n. slice_get ys n) (omega arith)
get_right (x ∷ xs) ys k =
    let at : suc (length xs) + k ≡ suc (length xs + k) = omega arith in
    ap (λ n. slice_get (x ∷ (xs ++ ys)) n) at ∙ get_right xs ys k

pub get_behind : {X : Type 0} (xs : List X) (n k : ℕ) → slice_get (drop n xs) k ≡ slice_get xs (n + k)
get_behind xs zero k = ap (λ m. slice_get xs m) (omega arith)
get_behind [] (suc n) k = refl
get_behind (x ∷ xs) (suc n) k =
    let at : suc (n + k) ≡ suc n + k = omega arith in
    get_behind xs n k ∙ ap (λ m. slice_get (x ∷ xs) m) at

-- slots behind known octets
pub slot_behind : (front : List ℕ) (held : List (Option ℕ)) (k : ℕ) →
    slot (map Some front ++ held) (length front + k) ≡ slot held k
slot_behind [] held k = ap (λ n. slot held n) (omega arith)
slot_behind (x ∷ front) held k =
    let at : suc (length front) + k ≡ suc (length front + k) = omega arith in
    ap (λ n. slot (Some x ∷ (map Some front ++ held)) n) at ∙ slot_behind front held k

pub slot_front : (front : List ℕ) (held : List (Option ℕ)) (k : ℕ) → k < length front →
    slot (map Some front ++ held) k ≡ slice_get front k
slot_front [] held k h = absurd (omega arith)
slot_front (x ∷ front) held zero h = refl
slot_front (x ∷ front) held (suc k) h = slot_front front held k (omega arith)
