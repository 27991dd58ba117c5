-- What has no fault as a configuration.
use Rattle.std.proofs.Common.{◌≡◌, Bool, true, false, ℕ, List, Some, None, refl}
use Rattle.std.specs.Prelude.{not, if◌then◌else◌}
use Rattle.dm_base.specs.Fit.{is_name}
use Rattle.dm_peer.specs.declared.fault.ConfigFault.TheVariants.{BadHost, SameHost}
use Rattle.dm_peer.specs.Hosts.{is_same_host, config_fault}

no_second : (n s : Bool) → (if not n then Some BadHost else (if s then Some SameHost else None)) ≡ None → s ≡ false
no_second true false e = refl
no_second true true e = cc
no_second false s e = cc

-- the peer's host isn't the node's own
pub not_own : (host peer : List ℕ) → config_fault host peer ≡ None → is_same_host host peer ≡ false
not_own host peer e = no_second (is_name peer) (is_same_host host peer) e
