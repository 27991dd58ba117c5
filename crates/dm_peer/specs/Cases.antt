-- What an event comes to, case by case: a step of the state machine after what was heard, a drop, or a refusal.
use Rattle.std.specs.Prelude.{◌≡◌, ℕ, Bool, true, false, Option, None, Some, List, []}
use Rattle.dm_wire.specs.declared.message.Message.{Message}
use Rattle.dm_wire.specs.Whole.{message_in}
use Rattle.dm_machine.specs.declared.connection.Conn.{Conn}
use Rattle.dm_machine.specs.Connection.{hold_of}
use Rattle.dm_machine.specs.Moves.{is_open}
use Rattle.dm_peer.specs.declared.fault.PeerFault.{PeerFault}
use Rattle.dm_peer.specs.declared.peer.Peer.{Peer}
use Rattle.dm_peer.specs.Events.{PeerEvent, Arrived, Submit}
use Rattle.dm_peer.specs.Said.{Heard, heard_in}
use Rattle.dm_peer.specs.Acts.{Outcome, Moved, Refused, steps, is_unread, is_dropped, can_submit, acts}
use Rattle.dm_peer.specs.Refusing.{submit_refusal}

-- octets on the connection aren't looked at
abbrev pub is_deaf : Peer → Conn → Bool
is_deaf p c = is_unread p.standing.core.state (hold_of p.standing.core c)

-- the event brings no octets
abbrev pub is_bare : PeerEvent → Bool
is_bare (Arrived c s) = false
is_bare (Submit s) = false
is_bare _ = true

-- what a peer hears at an event at which it takes a step
pub data Hears (p : Peer) : PeerEvent → Option Heard → Type 0 where
  unread : (c : Conn) (s : List ℕ) → is_deaf p c ≡ true → Hears p (Arrived c s) None
  no_message : (c : Conn) (s : List ℕ) → is_deaf p c ≡ false → message_in s ≡ None → Hears p (Arrived c s) None
  message : (c : Conn) (s : List ℕ) (m : Message) → is_deaf p c ≡ false → message_in s ≡ Some m →
      is_dropped p c m.header ≡ false → Hears p (Arrived c s) (Some (heard_in p.config m))
  submits_it : (s : List ℕ) → is_open p.standing.core.state ≡ true → can_submit (message_in s) ≡ true →
      Hears p (Submit s) None
  bare : (e : PeerEvent) → is_bare e ≡ true → Hears p e None

pub data Case (p : Peer) : PeerEvent → Outcome → Type 0 where
  step : (e : PeerEvent) (h : Option Heard) → Hears p e h → Case p e (steps p e h)
  drop : (c : Conn) (s : List ℕ) (m : Message) → is_deaf p c ≡ false → message_in s ≡ Some m →
      is_dropped p c m.header ≡ true → Case p (Arrived c s) (Moved [] p)
  refusal : (s : List ℕ) (f : PeerFault) →
      submit_refusal p.standing.core.state (can_submit (message_in s)) ≡ Some f → Case p (Submit s) (Refused f)

abbrev pub EachEventIsACase : Type 0
EachEventIsACase = (p : Peer) (e : PeerEvent) → Case p e (acts p e)
