-- A node beside whom each neighbour met.
use Rattle.std.specs.Prelude.{Option, List}
use Rattle.dm_slots.specs.Acquaintances.{Acquaintance}
use Rattle.dm_node.specs.declared.node.Node as declared
use Rattle.dm_node.specs.NodeSeen.{node_state_of, node_known_of}
use Rattle.dm_node.specs.NodeStates.{NodeState}

pub record Meeting : Type 0 where
  pub node : NodeState
  pub known : List (Option Acquaintance)

-- one that runs, as definitions see it
abbrev pub meeting_of : declared.Node → Meeting
meeting_of s = record { node = node_state_of s; known = node_known_of s }
