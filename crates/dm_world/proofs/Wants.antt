-- Where a piece of a message may want memory.
use Rattle.std.proofs.Common.{◌≡◌, ◌<◌, ℕ, Bool, true, false, ◌||◌, not, nat_lt, Option, Some, List, refl, ap, ◌∙◌}
use Rattle.std.proofs.Common.{arith}
use Rattle.std.specs.Prelude.{IsTrue}
use Rattle.dm_two_peers.specs.Links.{Side, Link}
use Rattle.dm_world.specs.declared.direction.Next.TheVariants as next
use Rattle.dm_world.specs.Next.{next_to, octets_to_come_to}
use Rattle.dm_world.specs.Happening.{is_shut_at, is_fed_at}

above : (k : ℕ) → 0 < k → nat_lt 0 k ≡ true
above k h = grind arith

below : (k n : ℕ) → k < n → nat_lt k n ≡ true
below k n h = grind arith

or_true : (b : Bool) → (b || true) ≡ true
or_true true = refl
or_true false = refl

-- the last octets of a message come to an end that isn't shut
pub wants_last : (s : Side) (k : ℕ) (o : Option (Link (List ℕ))) (l : Link (List ℕ)) → o ≡ Some l →
    next_to s l ≡ next.Message → 0 < k → is_shut_at s l ≡ false → IsTrue (is_fed_at s k o)
wants_last s k o l there is h hears =
    ap (λ x. is_fed_at s k x) there ∙ rw (is, hears, above k h) refl

-- others come
pub wants_part : (s : Side) (k : ℕ) (o : Option (Link (List ℕ))) (l : Link (List ℕ)) → o ≡ Some l →
    next_to s l ≡ next.Message → 0 < k → k < octets_to_come_to s l → IsTrue (is_fed_at s k o)
wants_part s k o l there is h part =
    ap (λ x. is_fed_at s k x) there
    ∙ rw (is, below k (octets_to_come_to s l) part, or_true (not (is_shut_at s l)), above k h) refl
