-- Which neighbour a look-up says that a host is of.
use Rattle.std.specs.Prelude.{◌≡◌, ℕ, nat_eq, Bool, Option, None, Some, List, if◌then◌else◌}
use Rattle.std.specs.Cmp.Lexicographic.{pointwise}
use Rattle.indexmap.specs.IndexMap.{get_by}
use Rattle.dm_base.specs.Before.{lower}
use Rattle.dm_peer.specs.declared.peer.Peer.{Peer}
use Rattle.dm_node.specs.declared.hosts.Hosts.{Hosts}
use Rattle.dm_node.specs.Holding.{host_at}

-- the two hosts, in lower case, are one
abbrev pub is_host : List ℕ → List ℕ → Bool
is_host h g = pointwise nat_eq h g

-- the number that is noted for a host in lower case
abbrev pub noted_number : Hosts → List ℕ → Option ℕ
noted_number o h = get_by (λ k. is_host h k.items) o.map

-- each neighbour's host is noted for it, and no other is
pub record AreHostsNoted (o : Hosts) (ps : List (Option Peer)) : Type 0 where
  pub has : (h : List ℕ) (i : ℕ) → noted_number o h ≡ Some i → host_at ps i ≡ Some h
  pub noted : (h : List ℕ) (i : ℕ) → host_at ps i ≡ Some h → noted_number o h ≡ Some i

-- the host of who is gone is forgotten, and no other
abbrev pub IsForgotten : Option Peer → Hosts → Hosts → Type 0
IsForgotten None o n = (h : List ℕ) → noted_number n h ≡ noted_number o h
IsForgotten (Some p) o n =
    (h : List ℕ) → noted_number n h ≡ if is_host (lower p.config.peer) h then None else noted_number o h
