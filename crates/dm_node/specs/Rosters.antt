-- The neighbours of a node, each found by its host.
use Rattle.std.specs.Prelude.{◌≡◌, ℕ, Option, List}
use Rattle.dm_peer.specs.declared.peer.Peer.{Peer}
use Rattle.dm_node.specs.declared.hosts.Hosts.{Hosts}
use Rattle.dm_node.specs.Holding.{AreApart, AreUnlike}
use Rattle.dm_node.specs.Naming.{AreHostsNoted}
use Rattle.dm_node.specs.NodeHeld.{AreKept}
use Rattle.dm_node.specs.Strangers.{present}

-- no connection is held by two neighbours and no two have one host, each is what events make of a new peer and is found
-- by its host, and they are counted
pub record IsRoster (ps : List (Option Peer)) (hosts : Hosts) (count : ℕ) : Type 0 where
  pub apart : AreApart ps
  pub unlike : AreUnlike ps
  pub kept : AreKept ps
  pub named : AreHostsNoted hosts ps
  pub counted : count ≡ present ps
