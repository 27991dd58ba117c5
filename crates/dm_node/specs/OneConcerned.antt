-- Whom an event concerns.
use Rattle.std.specs.Prelude.{◌≡◌, ℕ, Option, List}
use Rattle.dm_peer.specs.declared.peer.Peer.{Peer}
use Rattle.dm_node.specs.Neighbourhoods.{IsNeighbourhood}
use Rattle.dm_node.specs.Policies.{Policy}
use Rattle.dm_node.specs.Telling.{Concerns}
use Rattle.dm_node.specs.declared.events.NodeEvent.{NodeEvent}

-- an event concerns one neighbour at most, whatever the policy
abbrev pub OneIsConcerned : Type 0
OneIsConcerned =
    (policy : Policy) (ps : List (Option Peer)) (e : NodeEvent) (i j : ℕ) → IsNeighbourhood ps
    → Concerns policy ps e i → Concerns policy ps e j → i ≡ j
