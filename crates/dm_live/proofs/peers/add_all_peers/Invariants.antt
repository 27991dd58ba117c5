use Rattle.std.proofs.Common.{length}
use Rattle.dm_node.specs.NodeSeen.{node_state_of, node_known_of}
use Rattle.dm_live.specs.Beginnings.{AreUnmet}
use Rattle.dm_live.specs.Drafts.{settings_of}
use Rattle.dm_live.proofs.Joining.{Joining}
use Rattle.dm_live.proofs.peers.add_all_peers.Given as goal

-- the hosts so far are neighbours that met nobody, and the rest is left
abbrev pub invariant-host : goal.invariant-host
invariant-host l =
    Joining (settings_of l.draft) l.rest (node_state_of l.node) × AreUnmet (node_known_of l.node)

abbrev pub decreases-host : goal.decreases-host
decreases-host l = length l.rest
