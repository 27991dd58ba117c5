-- What is left of the octets begins behind extension headers.
use Rattle.std.proofs.Common.{length}
use Rattle.dm_flows.proofs.Passing.{BehindExtensions}
use Rattle.dm_flows.proofs.extensions.upper_layer_behind_extensions.Given as goal

abbrev pub invariant-headers : goal.invariant-headers
invariant-headers l = BehindExtensions l.fn.first l.fn.octets l.next l.rest

abbrev pub decreases-headers : goal.decreases-headers
decreases-headers l = length l.rest
