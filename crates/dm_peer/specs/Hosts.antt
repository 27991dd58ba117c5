-- The hosts of two sides (RFC 6733, 5.6.4).
use Rattle.std.specs.Prelude.{ℕ, Bool, true, false, not, Option, None, Some, List, if◌then◌else◌}
use Rattle.std.specs.declared.cmp.Ordering.{Ordering}
use Rattle.std.specs.declared.cmp.Ordering.TheVariants.{Equal, Greater}
use Rattle.dm_base.specs.Before.{lower, order_of_hosts}
use Rattle.dm_base.specs.Fit.{is_name}
use Rattle.dm_peer.specs.declared.fault.ConfigFault.{ConfigFault}
use Rattle.dm_peer.specs.declared.fault.ConfigFault.TheVariants.{BadHost, SameHost}

abbrev pub is_equal : Ordering → Bool
is_equal Equal = true
is_equal _ = false

abbrev pub is_greater : Ordering → Bool
is_greater Greater = true
is_greater _ = false

-- two names of one host: neither comes before the other
abbrev pub is_same_host : List ℕ → List ℕ → Bool
is_same_host h k = is_equal (order_of_hosts (lower h) (lower k))

-- the side whose host comes later wins an election
abbrev pub comes_later : List ℕ → List ℕ → Bool
comes_later h k = is_greater (order_of_hosts (lower h) (lower k))

-- why a node of this host can't have this peer, in this order
abbrev pub config_fault : List ℕ → List ℕ → Option ConfigFault
config_fault host peer =
    if not (is_name peer) then Some BadHost else (if is_same_host host peer then Some SameHost else None)
