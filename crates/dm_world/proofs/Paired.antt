-- Two configurations that make a world are configured for each other.
use Rattle.std.proofs.Common.{◌≡◌, ℕ, Bool, true, false, not, if◌then◌else◌, List, [], ◌∷◌, Some, None, nat_lt, refl}
use Rattle.std.proofs.Common.{◌∙◌}
use Rattle.std.specs.declared.cmp.Ordering.TheVariants.{Less, Greater}
use Rattle.dm_base.specs.Before.{lower, order_of_hosts}
use Rattle.dm_base.specs.Common.{are_common}
use Rattle.dm_peer.specs.declared.config.Config.{Config}
use Rattle.dm_peer.specs.Hosts.{is_equal, is_same_host}
use Rattle.dm_octet_peers.specs.Talking.{ArePaired}
use Rattle.dm_world.specs.declared.fault.NewFault.TheVariants.{NotPeers, NothingCommon}
use Rattle.dm_world.specs.New.{new_fault}

-- neither of two texts comes before the other, whichever is the first
turned : (s t : List ℕ) → is_equal (order_of_hosts s t) ≡ is_equal (order_of_hosts t s)
turned [] [] = refl
turned [] (b ∷ t) = refl
turned (a ∷ s) [] = refl
turned (a ∷ s) (b ∷ t) = by_first (nat_lt a b) (nat_lt b a) (turned s t) where
  by_first : (x y : Bool) → is_equal (order_of_hosts s t) ≡ is_equal (order_of_hosts t s) →
      is_equal (if x then Less else (if y then Greater else order_of_hosts s t))
      ≡ is_equal (if y then Less else (if x then Greater else order_of_hosts t s))
  by_first true true more = refl
  by_first true false more = refl
  by_first false true more = refl
  by_first false false more = more

-- no fault by what was asked
none_of : (left right common : Bool) →
    (if not left then Some NotPeers
    else (if not right then Some NotPeers else (if not common then Some NothingCommon else None))) ≡ None →
    (left ≡ true) × ((right ≡ true) × (common ≡ true))
none_of true true true e = (refl, (refl, refl))
none_of true true false e = absurd (cc)
none_of true false c e = absurd (cc)
none_of false b c e = absurd (cc)

pub no_fault_pairs : (left right : Config) → new_fault left right ≡ None → ArePaired left right
no_fault_pairs left right none =
    let asked =
    none_of (is_same_host left.peer right.node.host) (is_same_host right.peer left.node.host)
    (are_common left.node right.node) none in
    record {
      left = turned (lower left.node.host) (lower right.peer) ∙ asked.1.0;
      right = turned (lower right.node.host) (lower left.peer) ∙ asked.0;
      common = asked.1.1;
    }
