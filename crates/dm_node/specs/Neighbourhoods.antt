-- What holds of the neighbours of a node, whatever it was told.
use Rattle.std.specs.Prelude.{Option, List}
use Rattle.dm_peer.specs.declared.peer.Peer.{Peer}
use Rattle.dm_node.specs.Holding.{AreApart, AreUnlike}

-- no connection is held by two neighbours, and no two have one host
pub record IsNeighbourhood (ps : List (Option Peer)) : Type 0 where
  pub apart : AreApart ps
  pub unlike : AreUnlike ps
