use Rattle.std.proofs.Common.{subst}
use Rattle.dm_node.specs.NodeHeld.{AreKept}
use Rattle.dm_node.proofs.neighbours.neighbours_are_apart_and_sound.Goals as goal

pub returns-clause-kept : goal.returns-clause-kept
returns-clause-kept c = subst AreKept c.neighbours.view_is c.neighbours.invariant.kept
