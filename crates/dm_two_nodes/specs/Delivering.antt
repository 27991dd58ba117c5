-- What passes between the users of two neighbours, each of a node of its own.
use Rattle.std.specs.Prelude.{◌≡◌, ℕ, nat_eq, Bool, true, false, if◌then◌else◌, IfSome, List, [], ◌∷◌, ◌++◌}
use Rattle.dm_peer.specs.declared.actions.Action.{Action}
use Rattle.dm_peer.specs.Events.{PeerEvent}
use Rattle.dm_node.specs.NodeHistory.{NodeStep, WasAdded, WasTold, HasDeclined, MovedNobody}
use Rattle.dm_node.specs.NodeHistory.{WasRemoved, WasSetBack, AllWereSetBack}
use Rattle.dm_two_peers.specs.Links.{Side, A, B}
use Rattle.dm_two_peers.specs.Worlds.{World}
use Rattle.dm_peer.specs.declared.peer.Peer.{Peer}
use Rattle.dm_two_peers.specs.Happens.{Happening, run}
use Rattle.dm_two_peers.specs.Turns.{WorldTurn}
use Rattle.dm_two_peers.specs.Delivery.{submitted_on, handed_up_on, has_loss_of, DeliversInOrder}
use Rattle.dm_octet_peers.specs.Octets.{as_event, as_actions, octet_peers}
use Rattle.dm_octet_peers.specs.Carrying.{is_app}
use Rattle.dm_two_nodes.specs.Stories.{node_story}
use Rattle.dm_two_nodes.specs.Meeting.{Neighbour, world_between, MeetIn}

-- what a neighbour is told and does, as the turn of a side
abbrev pub turn_as : Side → PeerEvent → List Action → WorldTurn (List ℕ)
turn_as s e actions = record { side = s; event = as_event e; actions = as_actions actions }

-- the turns of the neighbour of a number since it was added, in order
abbrev pub node_turns : Side → ℕ → List NodeStep → List (WorldTurn (List ℕ))
node_turns s i [] = []
node_turns s i (WasAdded j ∷ past) = if nat_eq i j then [] else node_turns s i past
node_turns s i (WasTold j e actions ∷ past) =
    if nat_eq i j then node_turns s i past ++ turn_as s e actions ∷ [] else node_turns s i past
node_turns s i (_ ∷ past) = node_turns s i past

-- a step of a node concerns the neighbour of the number
abbrev pub is_step_of : ℕ → NodeStep → Bool
is_step_of i (WasAdded j) = nat_eq i j
is_step_of i (WasTold j e actions) = nat_eq i j
is_step_of i (HasDeclined j e) = nat_eq i j
is_step_of i MovedNobody = false
is_step_of i (WasRemoved j) = nat_eq i j
is_step_of i (WasSetBack j) = nat_eq i j
is_step_of i AllWereSetBack = true

-- any other step leaves what befell it, and its turns
pub record OthersLeaveTheStory : Type 0 where
  pub story : (i : ℕ) (x : NodeStep) (past : List NodeStep) → is_step_of i x ≡ false →
      node_story i (x ∷ past) ≡ node_story i past
  pub turns : (s : Side) (i : ℕ) (x : NodeStep) (past : List NodeStep) → is_step_of i x ≡ false →
      node_turns s i (x ∷ past) ≡ node_turns s i past

-- those of a neighbour
abbrev pub turns_at : Side → Neighbour → List (WorldTurn (List ℕ))
turns_at s n = node_turns s n.number n.past

-- what was handed up to the one neighbour on a link is a front of what the other's user submitted on it, octet for
-- octet; and so the other way round
pub record DeliverBothWays (f g : ℕ → ℕ) (n m : Neighbour) (w : World Peer (List ℕ)) (link : ℕ)
    (hs : List (Happening (List ℕ))) : Type 0 where
  pub there : DeliversInOrder octet_peers is_app w B link (has_loss_of link hs)
      (submitted_on B (f link) (turns_at A n)) (handed_up_on B (g link) (turns_at B m))
  pub back : DeliversInOrder octet_peers is_app w A link (has_loss_of link hs)
      (submitted_on A (g link) (turns_at B m)) (handed_up_on A (f link) (turns_at A n))

-- whatever happens to the rest
abbrev pub TwoNodesDeliver : Type 0
TwoNodesDeliver =
    (f g : ℕ → ℕ) (n m : Neighbour) (hs : List (Happening (List ℕ))) (link : ℕ) → MeetIn f g n m hs →
    IfSome (run octet_peers (world_between n m) hs) (λ r. DeliverBothWays f g n m r.world link hs)
