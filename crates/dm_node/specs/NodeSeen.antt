-- A node, as definitions see it.
use Rattle.std.specs.Prelude.{Option, List}
use Rattle.dm_slots.specs.Acquaintances.{Acquaintance}
use Rattle.dm_slots.specs.Held.{intakes_of}
use Rattle.dm_node.specs.declared.node.Node as declared
use Rattle.dm_node.specs.NodeKnown.{known_of}
use Rattle.dm_node.specs.NodeStates.{NodeState}

abbrev pub node_state_of : declared.Node → NodeState
node_state_of s =
    record {
      node = s.own;
      peers = s.neighbours;
      intakes = intakes_of s.intakes;
      first_max = s.first_max;
      most = s.most;
    }

-- what is known of its neighbours
abbrev pub node_known_of : declared.Node → List (Option Acquaintance)
node_known_of s = known_of s.known
