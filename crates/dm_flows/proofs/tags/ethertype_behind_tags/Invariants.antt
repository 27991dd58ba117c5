-- What is left of the octets begins behind tags.
use Rattle.std.proofs.Common.{length}
use Rattle.dm_flows.proofs.Passing.{BehindTags}
use Rattle.dm_flows.proofs.tags.ethertype_behind_tags.Given as goal

abbrev pub invariant-tags : goal.invariant-tags
invariant-tags l = BehindTags l.fn.octets l.rest

abbrev pub decreases-tags : goal.decreases-tags
decreases-tags l = length l.rest
