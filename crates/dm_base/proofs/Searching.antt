-- What a binary search of sorted ids says.
use Rattle.std.proofs.Common.{◌≡◌, ◌≢◌, ◌||◌, ◌<◌, ◌≤◌, ℕ, Bool, true, false, nat_eq, nat_lt, suc, Result, Err, List, [], ◌∷◌, length, get_or, refl, sym, arith}
use Rattle.std.specs.List.{list_any}
use Rattle.std.specs.List.Sorted.{IsBinarySearchResult, IsNonDecreasing, IsPermutation}
use Rattle.std.specs.Ordering.{nat_cmp}
use Rattle.std.proofs.lemmas.Bool.{ne_eqb, ltb-true, ltb-false}
use Rattle.std.proofs.lemmas.List.Sorted.{searched, list_any-IsPermutation}
use Rattle.dm_base.specs.Common.{lists_id, is_own}

none_is : (l : List ℕ) (id : ℕ) → ((k : ℕ) → k < length l → get_or l k 0 ≢ id) → lists_id l id ≡ false
none_is [] id h = refl
none_is (x ∷ l) id h = rw (ne_eqb x id (h 0 (omega arith))) (none_is l id (λ k b. h (suc k) (omega arith)))

-- an id that is not found is not there
pub not_found : (l : List ℕ) (id : ℕ) (r : Result ℕ ℕ) (i : ℕ) → IsNonDecreasing l
    → IsBinarySearchResult (λ y. nat_cmp y id) l r → r ≡ Err i → false ≡ lists_id l id
not_found l id r i up found e =
    let h = searched l id r found (λ j k a b. up j k 0 a b) in
    let at : (i ≤ length l) × ((k : ℕ) → k < i → get_or l k 0 < id) ×
    ((k : ℕ) → i ≤ k → k < length l → id < get_or l k 0) = rw e at h in
    sym (none_is l id (λ k b same. apart k b same at.1 at.2))
  where
    apart : (k : ℕ) → k < length l → get_or l k 0 ≡ id → ((k : ℕ) → k < i → get_or l k 0 < id)
        → ((k : ℕ) → i ≤ k → k < length l → id < get_or l k 0) → ⊥
    apart k b same low high = by (nat_lt k i) refl where
      by : (t : Bool) → nat_lt k i ≡ t → ⊥
      by true t = let x = low k (ltb-true k i t) in omega arith
      by false t = let x = high k (ltb-false k i t) b in omega arith

same_any : (p q : ℕ → Bool) (l : List ℕ) → ((x : ℕ) → p x ≡ q x) → list_any p l ≡ list_any q l
same_any p q [] h = refl
same_any p q (x ∷ l) h = rw (h x, same_any p q l h) refl

-- in whatever order they are
pub same_own : (auth acct specific auth2 acct2 specific2 theirs : List ℕ) → IsPermutation auth auth2
    → IsPermutation acct acct2 → IsPermutation specific specific2
    → list_any (is_own auth2 acct2 specific2) theirs ≡ list_any (is_own auth acct specific) theirs
same_own auth acct specific auth2 acct2 specific2 theirs h g k =
    same_any (is_own auth2 acct2 specific2) (is_own auth acct specific) theirs (λ id.
    let a : lists_id auth id ≡ lists_id auth2 id = list_any-IsPermutation (λ other. nat_eq other id) auth auth2 h in
    let b : lists_id acct id ≡ lists_id acct2 id = list_any-IsPermutation (λ other. nat_eq other id) acct acct2 g in
    let c : lists_id specific id ≡ lists_id specific2 id =
    list_any-IsPermutation (λ other. nat_eq other id) specific specific2 k in
    rw (a, b, c) refl)

pub or_behind : (a b : Bool) → a ≡ false → b ≡ (a || b)
or_behind a b h = rw h refl
