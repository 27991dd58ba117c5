-- What the other side said of itself when a peer was opened (RFC 6733, 5.3 and 8.16).
use Rattle.std.specs.Prelude.{◌==◌, ℕ, Bool, false, not, ◌&&◌, cond, if◌then◌else◌, nat_eq, length}
use Rattle.std.specs.Prelude.{Option, None, Some, is_some, List, []}
use Rattle.dm_wire.specs.declared.message.Message.{Message}
use Rattle.dm_wire.specs.Whole.{message_in}
use Rattle.dm_base.specs.Codes.{capabilities_exchange, origin_state_id}
use Rattle.dm_base.specs.Senders.{number_told}
use Rattle.dm_machine.specs.declared.connection.Conn.{Conn}
use Rattle.dm_machine.specs.declared.state_name.State.{State}
use Rattle.dm_machine.specs.Awaiting.{holds_cer}
use Rattle.dm_machine.specs.Moves.{is_open}
use Rattle.dm_peer.specs.declared.peer.Peer.{Peer}
use Rattle.dm_peer.specs.Holding.{holds}

-- the octets of the CER or CEA by which a peer was opened last, or none; the CER that waits for its CEA in an election
-- (5.6.4), where one does; and the Origin-State-Id that was said in the one before
pub record Acquaintance : Type 0 where
  pub octets : List ℕ
  pub waiting : Option (List ℕ)
  pub before : Option ℕ

-- nobody was met
abbrev pub nobody : Acquaintance
nobody = record { octets = []; waiting = None; before = None }

-- the message, where it is a CER or a CEA (5.3)
abbrev pub exchange_of : Option Message → Option Message
exchange_of None = None
exchange_of (Some m) = if nat_eq m.header.command capabilities_exchange then Some m else None

-- the CER or CEA that the octets spell
abbrev pub exchange_in : List ℕ → Option Message
exchange_in s = exchange_of (message_in s)

abbrev pub spells_exchange : List ℕ → Bool
spells_exchange s = is_some (exchange_in s)

-- the Origin-State-Id that it says
abbrev pub state_of : Option Message → Option ℕ
state_of None = None
state_of (Some m) = number_told origin_state_id m.avps

abbrev pub state_in : List ℕ → Option ℕ
state_in s = state_of (exchange_in s)

-- both were said, neither is 0, by which nothing is to be told (8.16), and they differ
abbrev pub began_anew : Option ℕ → Option ℕ → Bool
began_anew (Some now) (Some before) = not (nat_eq now 0) && (not (nat_eq before 0) && not (nat_eq now before))
began_anew _ _ = false

-- the other side was met by this message; what was known gives the number before
abbrev pub met_by : List ℕ → Acquaintance → Acquaintance
met_by message a = record { octets = message; waiting = None; before = state_in a.octets }

-- this message waits
abbrev pub with_waiting : List ℕ → Acquaintance → Acquaintance
with_waiting message a = record { octets = a.octets; waiting = Some message; before = a.before }

-- the other side was met by the message that waited, if one did
abbrev pub met_waiting : Option (List ℕ) → Acquaintance → Acquaintance
met_waiting None a = a
met_waiting (Some message) a = met_by message a

-- the message is a CER or CEA, and is told in a state that isn't open
abbrev pub is_exchange_to : State → List ℕ → Bool
is_exchange_to state message = not (is_open state) && spells_exchange message

-- This message of connection c was told to a peer that wasn't open and is: it was opened by the message where it holds
-- that connection behind it; else by the CER that waited, as where the message ends the own connection in an election
-- (5.6.4).
abbrev pub known_opened : Conn → Peer → List ℕ → Acquaintance → Acquaintance
known_opened c q message a = cond (holds c q) (met_by message a) (met_waiting a.waiting a)

-- What is known behind a CER or CEA of connection c, by the state in which it was told, which isn't open, and the peer
-- behind it: where that is open, by what it was opened; and where a CER waits and none did before, it is this one.
abbrev pub known_by : Conn → State → Peer → List ℕ → Acquaintance → Acquaintance
known_by c state q message a =
    cond (is_open q.standing.core.state) (known_opened c q message a)
    (cond (not (holds_cer state) && holds_cer q.standing.core.state) (with_waiting message a) a)

-- What is known behind what is no such message: an order's event, another message, a fault of a stream. Where the peer
-- wasn't open and is, as an election is over, it was opened by the CER that waited; else what is known stays.
abbrev pub known_after : State → Peer → Acquaintance → Acquaintance
known_after state q a = cond (not (is_open state) && is_open q.standing.core.state) (met_waiting a.waiting a) a

-- what is known behind a message of connection c
abbrev pub known_at : Conn → State → Peer → List ℕ → Acquaintance → Acquaintance
known_at c state q message a =
    cond (is_exchange_to state message) (known_by c state q message a) (known_after state q a)

-- what is known behind what came on connection c, of which these octets are the CER or CEA that it was, in a state that
-- isn't open, or none
abbrev pub known_if_any : List ℕ → Conn → State → Peer → Acquaintance → Acquaintance
known_if_any octets c state q a =
    cond (length octets == 0) (known_after state q a) (known_by c state q octets a)
