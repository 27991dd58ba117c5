-- What befalls a neighbour of a node, and a side of a run of two peers: which events it takes, and where it is set
-- back.
use Rattle.std.specs.Prelude.{ℕ, nat_eq, Bool, false, not, ◌&&◌, if◌then◌else◌}
use Rattle.std.specs.Prelude.{Option, None, Some, List, [], ◌∷◌, ◌++◌, map}
use Rattle.dm_machine.specs.declared.connection.Conn.{Conn}
use Rattle.dm_peer.specs.declared.peer.Peer.{Peer}
use Rattle.dm_peer.specs.Acts.{acts}
use Rattle.dm_peer.specs.Events.{PeerEvent}
use Rattle.dm_peer.specs.Holding.{holds}
use Rattle.dm_history.specs.Replaying.{peer_left}
use Rattle.dm_node.specs.Emptying.{set_back}
use Rattle.dm_node.specs.NodeHistory.{NodeStep, WasAdded, WasTold, HasDeclined, MovedNobody}
use Rattle.dm_node.specs.NodeHistory.{WasRemoved, WasSetBack, AllWereSetBack}
use Rattle.dm_node.specs.Telling.{conn_of}
use Rattle.dm_two_peers.specs.Links.{Side, opens}
use Rattle.dm_two_peers.specs.Worlds.{World}
use Rattle.dm_two_peers.specs.Happens.{Happening, Restarts, happens, world_after}
use Rattle.dm_two_peers.specs.Turns.{WorldTurn, turns}
use Rattle.dm_octet_peers.specs.Octets.{of_event, octet_peers}
use Rattle.dm_two_nodes.specs.Renaming.{renumbered_event}

-- a peer takes an event, or is set back
pub data Chapter : Type 0 where
  TakesEvent : PeerEvent → Chapter
  IsSetBack : Chapter

abbrev pub renumbered_chapter : (ℕ → ℕ) → Chapter → Chapter
renumbered_chapter f (TakesEvent e) = TakesEvent (renumbered_event f e)
renumbered_chapter f IsSetBack = IsSetBack

abbrev pub renumbered_story : (ℕ → ℕ) → List Chapter → List Chapter
renumbered_story f story = map (renumbered_chapter f) story

-- what befell the neighbour of a number since it was added, in order; what it refused is left out
abbrev pub node_story : ℕ → List NodeStep → List Chapter
node_story i [] = []
node_story i (WasAdded j ∷ past) = if nat_eq i j then [] else node_story i past
node_story i (WasTold j e actions ∷ past) =
    if nat_eq i j then node_story i past ++ TakesEvent e ∷ [] else node_story i past
node_story i (HasDeclined j e ∷ past) = node_story i past
node_story i (MovedNobody ∷ past) = node_story i past
node_story i (WasRemoved j ∷ past) = node_story i past
node_story i (WasSetBack j ∷ past) = if nat_eq i j then node_story i past ++ IsSetBack ∷ [] else node_story i past
node_story i (AllWereSetBack ∷ past) = node_story i past ++ IsSetBack ∷ []

-- what befell a side of a run of two peers, in order: its turns and its restarts
abbrev pub turns_taken : Side → List (WorldTurn (List ℕ)) → List Chapter
turns_taken s [] = []
turns_taken s (u ∷ us) = if opens s u.side then TakesEvent (of_event u.event) ∷ turns_taken s us else turns_taken s us

abbrev pub side_chapters : Side → World Peer (List ℕ) → Happening (List ℕ) → List Chapter
side_chapters s w (Restarts t) = if opens s t then IsSetBack ∷ [] else []
side_chapters s w h = turns_taken s (turns octet_peers w h)

abbrev pub side_story : Side → World Peer (List ℕ) → List (Happening (List ℕ)) → List Chapter
side_story s w [] = []
side_story s w (h ∷ hs) = side_chapters s w h ++ side_story s (world_after w (happens octet_peers w h)) hs

-- neither of two peers holds the connection, if it is one
abbrev pub holds_neither : Peer → Peer → Option Conn → Bool
holds_neither p q None = false
holds_neither p q (Some c) = not (holds c p) && not (holds c q)

-- an event passes a peer by where it names a connection that is held neither before it nor behind it
abbrev pub passes_by : Peer → PeerEvent → Bool
passes_by p e = holds_neither p (peer_left p (acts p e)) (conn_of e)

-- a story without what passes the peer by
abbrev pub gist : Peer → List Chapter → List Chapter
gist p [] = []
gist p (TakesEvent e ∷ more) =
    let rest = gist (peer_left p (acts p e)) more in if passes_by p e then rest else TakesEvent e ∷ rest
gist p (IsSetBack ∷ more) = IsSetBack ∷ gist (set_back p) more
