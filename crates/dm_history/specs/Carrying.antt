-- What a peer hands up and sends for its user, whatever the other side is.
use Rattle.std.specs.Prelude.{◌≡◌, ◌⊎◌, ℕ, true, false, Option, Some, List, [], ◌∷◌}
use Rattle.dm_wire.specs.declared.avp.Avp.{Avp}
use Rattle.dm_wire.specs.declared.message.Header.{Header}
use Rattle.dm_wire.specs.declared.message.Message.{Message}
use Rattle.dm_wire.specs.Whole.{message_in}
use Rattle.dm_base.specs.declared.kind.Cause.{Cause}
use Rattle.dm_base.specs.declared.node.Node.{Node}
use Rattle.dm_base.specs.Built.{built_cer, built_dwr, built_dpr, built_cea, built_answer, built_error}
use Rattle.dm_base.specs.Commands.{is_base_command}
use Rattle.dm_machine.specs.declared.connection.Conn.{Conn}
use Rattle.dm_machine.specs.Connection.{hold_of}
use Rattle.dm_machine.specs.Upward.{is_open_hold}
use Rattle.dm_peer.specs.declared.actions.Action.{Action}
use Rattle.dm_peer.specs.declared.actions.Action.TheVariants.{Send, Up}
use Rattle.dm_peer.specs.declared.config.Config.{Config}
use Rattle.dm_peer.specs.declared.peer.Peer.{Peer}
use Rattle.dm_peer.specs.Events.{PeerEvent, Arrived, Submit}
use Rattle.dm_peer.specs.Octets.{octets_of}
use Rattle.dm_peer.specs.Acts.{Moved, acts}
use Rattle.dm_history.specs.History.{Happened, new_peer, Became, StandsAmong}

-- the peer is open on the connection
abbrev pub StandsOpen : Peer → Conn → Type 0
StandsOpen p c = is_open_hold (hold_of p.standing.core c) ≡ true

-- a CER, DWR or DPR of the node, or an answer of it
pub data IsOwnMessage (n : Node) : Message → Type 0 where
  cer : (id : ℕ) → IsOwnMessage n (built_cer n id)
  dwr : (id : ℕ) → IsOwnMessage n (built_dwr n id)
  dpr : (id : ℕ) (cause : Cause) → IsOwnMessage n (built_dpr n id cause)
  cea : (to : Header) (code : ℕ) (failed : Option Avp) → IsOwnMessage n (built_cea n to code failed)
  answer : (to : Header) (code : ℕ) (failed : Option Avp) → IsOwnMessage n (built_answer n to code failed)
  error_answer : (to : Header) (code : ℕ) → IsOwnMessage n (built_error n to code)

-- the octets are those of such a message, of command 257, 280 or 282
pub record AreOwn (n : Node) (s : List ℕ) : Type 0 where
  pub message : Message
  pub own : IsOwnMessage n message
  pub base : is_base_command message.header.command ≡ true
  pub spelled : s ≡ octets_of message

-- the octets spell a message of another command
pub record SpellOther (s : List ℕ) : Type 0 where
  pub message : Message
  pub spelled : message_in s ≡ Some message
  pub other : is_base_command message.header.command ≡ false

-- the octets that are handed up came just then, on the connection on which the peer is open
pub record CameOnOpen (p : Peer) (e : PeerEvent) (s : List ℕ) : Type 0 where
  pub conn : Conn
  pub came : e ≡ Arrived conn s
  pub opened : StandsOpen p conn
  pub said : SpellOther s

-- the octets that are sent on the connection, on which the peer is open, were submitted just then
pub record IsPassedOn (p : Peer) (e : PeerEvent) (c : Conn) (s : List ℕ) : Type 0 where
  pub submitted : e ≡ Submit s
  pub opened : StandsOpen p c
  pub said : SpellOther s

-- all octets that are handed up are so, and all that are sent are the node's own or passed on
pub record IsCarried (n : Node) (p : Peer) (e : PeerEvent) (actions : List Action) : Type 0 where
  pub up : (s : List ℕ) → StandsAmong actions (Up s) → CameOnOpen p e s
  pub sent : (c : Conn) (s : List ℕ) → StandsAmong actions (Send c s) → AreOwn n s ⊎ IsPassedOn p e c s

pub record CarriesNext (n : Node) (p : Peer) : Type 0 where
  pub only : (e : PeerEvent) (actions : List Action) (next : Peer) → acts p e ≡ Moved actions next →
      IsCarried n p e actions
  -- a message of another command that comes on the open connection is handed up, and nothing else done
  pub each : (c : Conn) (s : List ℕ) (m : Message) → StandsOpen p c → message_in s ≡ Some m →
      is_base_command m.header.command ≡ false → (next : Peer) × (acts p (Arrived c s) ≡ Moved (Up s ∷ []) next)
  -- the peer is open on one connection at most
  pub one : (c d : Conn) → StandsOpen p c → StandsOpen p d → c ≡ d

-- after every list of events a peer that was new carries messages so at the next one
abbrev pub EachRunCarries : Type 0
EachRunCarries =
    (config : Config) (next : ℕ) (past : List Happened) (p : Peer) →
    Became (new_peer config next) past p → CarriesNext config.node p
