-- Room for what a side sends.
use Rattle.std.specs.Prelude.{ℕ, ◌≤◌, ◌==◌, Bool, false, ◌||◌, IsTrue, Option, Some, None, List, IfSome, slice_get}
use Rattle.std.specs.Prelude.{map, length}
use Rattle.dm_two_peers.specs.Links.{Side}
use Rattle.dm_two_peers.specs.Machine.{Conn, Initiated, Accepted, Node, held_as}
use Rattle.dm_two_peers.specs.Peers.{Event, StartEvent, AckEvent, NackEvent, GoneEvent}
use Rattle.dm_two_peers.specs.Peers.{ArrivedEvent, Action, deed_in, sends_at}
use Rattle.dm_peer.specs.declared.actions.Action as declared_action
use Rattle.dm_octet_peers.specs.Frames.{SendFrames}
use Rattle.dm_octet_peers.specs.Octets.{as_actions}
use Rattle.dm_world.specs.declared.link.Link.{Link}
use Rattle.dm_world.specs.Seen.{out_room}

-- the link of a number, if there is one, has room for n more messages of a side
abbrev pub HasRoom : Side → List Link → ℕ → ℕ → Type 0
HasRoom s ls n c = IfSome (slice_get ls c) (λ l. n ≤ out_room s l)

-- each link has room for all actions, where one of them is sent on it
abbrev pub HasRoomFor : Side → List Link → List (Action (List ℕ)) → Type 0
HasRoomFor s ls actions = (c : ℕ) → IsTrue (sends_at c (map deed_in actions)) → HasRoom s ls (length actions) c

-- the connection, if there is one, is the link of a number
abbrev pub is_conn : Option Conn → ℕ → Bool
is_conn None c = false
is_conn (Some d) c = d.0 == c

-- the link that an event names
abbrev pub named : Event (List ℕ) → Option Conn
named (StartEvent c) = Some c
named (AckEvent c) = Some c
named (NackEvent c) = Some c
named (GoneEvent c) = Some c
named (ArrivedEvent c s) = Some c
named _ = None

-- the links that a node holds
abbrev pub node_holds_link : Node → ℕ → Bool
node_holds_link n c = is_conn (held_as Initiated n.held) c || is_conn (held_as Accepted n.held) c

-- the links on which a node may send at an event: those that it holds, and the one that is named
abbrev pub may_send : Node → Option Conn → ℕ → Bool
may_send n named c = node_holds_link n c || is_conn named c

-- each of them has room for what a node sends at most, four messages
abbrev pub HasRoomToSend : Side → List Link → Node → Option Conn → Type 0
HasRoomToSend s ls n named = (c : ℕ) → IsTrue (may_send n named c) → HasRoom s ls 4 c

-- what is sent has room and is a frame
pub record CanSend (s : Side) (ls : List Link) (actions : List declared_action.Action) : Type 0 where
  pub room : HasRoomFor s ls (as_actions actions)
  pub frames : SendFrames (as_actions actions)
