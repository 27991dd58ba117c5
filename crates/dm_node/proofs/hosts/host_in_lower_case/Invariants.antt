use Rattle.std.proofs.Common.{◌≡◌, map, take}
use Rattle.dm_base.specs.Before.{lower_octet}
use Rattle.dm_node.proofs.hosts.host_in_lower_case.Given as goal

abbrev pub invariant-loop-octet : goal.invariant-loop-octet
invariant-loop-octet l = l.lower.items ≡ map lower_octet (take l.octet-index l.host)
