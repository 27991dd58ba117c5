-- What an event does to the neighbours: what it does to a peer, at the one that it concerns.
use Rattle.std.specs.Prelude.{◌≡◌, ◌⊎◌, ℕ, true, false, Option, None, Some, IsSome, IfSome, IfNone, List, length, ⊤}
use Rattle.dm_base.specs.Before.{lower}
use Rattle.dm_machine.specs.declared.connection.Conn.{Conn}
use Rattle.dm_peer.specs.declared.actions.Action.{Action}
use Rattle.dm_peer.specs.declared.fault.PeerFault.{PeerFault}
use Rattle.dm_peer.specs.declared.peer.Peer.{Peer}
use Rattle.dm_peer.specs.Events.{PeerEvent, Start, Stop, Timeout, Tick, Ack, Nack, Arrived, Gone, Submit}
use Rattle.dm_peer.specs.Acts.{Moved, acts, IsRefused}
use Rattle.dm_node.specs.declared.events.NodeEvent.{NodeEvent}
use Rattle.dm_node.specs.declared.events.NodeEvent.TheVariants as event
use Rattle.dm_node.specs.declared.fault.OrderFault.{OrderFault}
use Rattle.dm_node.specs.declared.fault.OrderFault.TheVariants as fault
use Rattle.dm_peer.specs.declared.fault.PeerFault.TheVariants.{NoMemory}
use Rattle.dm_node.specs.Calling.{Caller, caller_of}
use Rattle.dm_node.specs.Holding.{peer_at, holds_at, host_at}
use Rattle.dm_node.specs.Policies.{Policy}

-- the connection that an event names
abbrev pub conn_of : PeerEvent → Option Conn
conn_of (Start c) = Some c
conn_of (Ack c) = Some c
conn_of (Nack c) = Some c
conn_of (Arrived c s) = Some c
conn_of (Gone c) = Some c
conn_of _ = None

-- the neighbour of this number is told the event: what happens to it is what happens to a peer of its own, and to each
-- other one nothing
pub record PeerIsTold (ps qs : List (Option Peer)) (i : ℕ) (e : PeerEvent) (actions : List Action) : Type 0 where
  pub before : Peer
  pub after : Peer
  pub was : peer_at ps i ≡ Some before
  pub acts : acts before e ≡ Moved actions after
  pub is : peer_at qs i ≡ Some after
  pub others : (j : ℕ) → (j ≡ i → ⊥) → peer_at qs j ≡ peer_at ps j
  pub count : length qs ≡ length ps

-- the neighbour refuses the event
pub record IsRefusedBy (ps : List (Option Peer)) (i : ℕ) (e : PeerEvent) (fault : PeerFault) : Type 0 where
  pub peer : Peer
  pub at : peer_at ps i ≡ Some peer
  pub refused : IsRefused (acts peer e) fault

-- the event as the neighbour is told it
abbrev pub told_of : NodeEvent → PeerEvent
told_of (event.Start n c) = Start c
told_of (event.Stop n cause) = Stop cause
told_of (event.Timeout n) = Timeout
told_of (event.Tick n) = Tick
told_of (event.Submit n octets) = Submit octets.now
told_of (event.Ack c) = Ack c
told_of (event.Nack c) = Nack c
told_of (event.Arrived c octets) = Arrived c octets.now
told_of (event.Gone c) = Gone c

-- nobody holds the connection
abbrev pub IsFree : List (Option Peer) → Conn → Type 0
IsFree ps c = (j : ℕ) → holds_at ps c j ≡ false

-- a Start is of a connection that nobody holds: a number that is in use isn't started
abbrev pub StartsFree : List (Option Peer) → NodeEvent → Type 0
StartsFree ps (event.Start n c) = IsFree ps c
StartsFree ps _ = ⊤

-- the octets are the CER of the host of the neighbour of this number
abbrev pub IsCallOf : List (Option Peer) → List ℕ → ℕ → Type 0
IsCallOf ps s i = (call : Caller) × (caller_of s ≡ Some call) × (host_at ps i ≡ Some (lower call.1))

-- the neighbour of this number is the policy's porter, and is there
abbrev pub IsPorter : Policy → List (Option Peer) → ℕ → Type 0
IsPorter policy ps i = (policy.porter ≡ Some i) × IsSome (peer_at ps i)

-- the first octets of a connection are for the neighbour whose host's CER they are, and where they are the CER of no
-- neighbour's host for the porter
abbrev pub IsFirstFor : Policy → List (Option Peer) → List ℕ → ℕ → Type 0
IsFirstFor policy ps s i = IsCallOf ps s i ⊎ (((j : ℕ) → IsCallOf ps s j → ⊥) × IsPorter policy ps i)

-- octets on a connection concern the neighbour that holds it, and where none does the one that its first octets are for
abbrev pub IsAddressed : Policy → List (Option Peer) → Conn → List ℕ → ℕ → Type 0
IsAddressed policy ps c s i = (holds_at ps c i ≡ true) ⊎ (IsFree ps c × IsFirstFor policy ps s i)

-- the neighbour that holds a connection, where one does
pub record IsHolder (ps : List (Option Peer)) (c : Conn) (holder : Option ℕ) : Type 0 where
  pub found : IfSome holder (λ i. holds_at ps c i ≡ true)
  pub none : IfNone holder ((j : ℕ) → holds_at ps c j ≡ false)

-- the event concerns the neighbour of this number: it names it, or a connection that this one holds, or it is a first
-- message of its host, or one of a stranger to the porter
abbrev pub Concerns : Policy → List (Option Peer) → NodeEvent → ℕ → Type 0
Concerns policy ps (event.Start n c) i = n ≡ i
Concerns policy ps (event.Stop n cause) i = n ≡ i
Concerns policy ps (event.Timeout n) i = n ≡ i
Concerns policy ps (event.Tick n) i = n ≡ i
Concerns policy ps (event.Submit n octets) i = n ≡ i
Concerns policy ps (event.Ack c) i = holds_at ps c i ≡ true
Concerns policy ps (event.Nack c) i = holds_at ps c i ≡ true
Concerns policy ps (event.Arrived c octets) i = IsAddressed policy ps c octets.now i
Concerns policy ps (event.Gone c) i = holds_at ps c i ≡ true

-- no other neighbour holds the connection that the event names
abbrev pub IsAlone : List (Option Peer) → PeerEvent → ℕ → Type 0
IsAlone ps e i = (j : ℕ) (c : Conn) → conn_of e ≡ Some c → holds_at ps c j ≡ true → j ≡ i

-- whose an event is: of one neighbour, who is there and holds alone what it names, or of none
pub record IsWhose (policy : Policy) (ps : List (Option Peer)) (e : NodeEvent) (who : Option ℕ) : Type 0 where
  pub there : IfSome who (λ i. IsSome (peer_at ps i))
  pub concerned : IfSome who (Concerns policy ps e)
  pub nobody : IfNone who ((i : ℕ) → Concerns policy ps e i → ⊥)
  pub alone : IfSome who (IsAlone ps (told_of e))

-- no neighbour has the number
abbrev pub IsNobody : List (Option Peer) → ℕ → OrderFault → Type 0
IsNobody ps n fault.NoNeighbour = peer_at ps n ≡ None
IsNobody ps n _ = ⊥

-- why an event is misdirected: no neighbour has the number that it names
abbrev pub IsMisdirected : List (Option Peer) → NodeEvent → OrderFault → Type 0
IsMisdirected ps (event.Start n c) f = IsNobody ps n f
IsMisdirected ps (event.Stop n cause) f = IsNobody ps n f
IsMisdirected ps (event.Timeout n) f = IsNobody ps n f
IsMisdirected ps (event.Tick n) f = IsNobody ps n f
IsMisdirected ps (event.Submit n octets) f = IsNobody ps n f
IsMisdirected ps e f = ⊥

-- the event is the CER of a stranger
abbrev pub IsStrangeCer : NodeEvent → Type 0
IsStrangeCer (event.Arrived c octets) = IsSome (caller_of octets.now)
IsStrangeCer _ = ⊥

-- why the node refuses: the event is misdirected, the neighbour that it concerns refuses, or memory is wanted for the
-- answer to a stranger's CER
abbrev pub IsRefusedHere : Policy → List (Option Peer) → NodeEvent → OrderFault → Type 0
IsRefusedHere policy ps e (fault.Peer f) =
    ((i : ℕ) × Concerns policy ps e i × IsRefusedBy ps i (told_of e) f)
    ⊎ ((f ≡ NoMemory) × ((i : ℕ) → Concerns policy ps e i → ⊥) × IsStrangeCer e)
IsRefusedHere policy ps e f = IsMisdirected ps e f
