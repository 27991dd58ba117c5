-- How a connection was opened, whatever the other side is (RFC 6733, 5.3 and 5.6).
use Rattle.std.specs.Prelude.{◌≡◌, ◌⊎◌, ⊤, ℕ, None, Some, List, [], ◌∷◌}
use Rattle.dm_wire.specs.declared.message.Message.{Message}
use Rattle.dm_wire.specs.Whole.{message_in}
use Rattle.dm_base.specs.declared.node.Node.{Node}
use Rattle.dm_base.specs.Built.{built_cer, built_cea}
use Rattle.dm_base.specs.Codes.{success}
use Rattle.dm_machine.specs.declared.connection.Conn.{Conn}
use Rattle.dm_machine.specs.Connection.{Hold, OpenAsI, OpenAsR, hold_of}
use Rattle.dm_peer.specs.declared.actions.Action.{Action}
use Rattle.dm_peer.specs.declared.actions.Action.TheVariants.{Send}
use Rattle.dm_peer.specs.declared.config.Config.{Config}
use Rattle.dm_peer.specs.declared.peer.Peer.{Peer}
use Rattle.dm_peer.specs.Events.{Ack, Arrived}
use Rattle.dm_peer.specs.Octets.{octets_of}
use Rattle.dm_history.specs.History.{Happened, done_at, new_peer, Became, Once, StandsAmong}
use Rattle.dm_history.specs.Naming.{IsClosing, HasEnded}
use Rattle.dm_history.specs.Meant.{IsAcceptableCer, IsAcceptableCea}

-- the message came on the connection
pub record HasCome (c : Conn) (m : Message) (x : Happened) : Type 0 where
  pub octets : List ℕ
  pub actions : List Action
  pub spelled : message_in octets ≡ Some m
  pub came : x ≡ done_at (Arrived c octets) actions

-- some message, or octets that are none, came on it
pub record HasArrived (c : Conn) (x : Happened) : Type 0 where
  pub octets : List ℕ
  pub actions : List Action
  pub came : x ≡ done_at (Arrived c octets) actions

-- nothing came on it since it last was closed or told ended, or ever
abbrev pub IsUnheard : Conn → List Happened → Type 0
IsUnheard c [] = ⊤
IsUnheard c (x ∷ past) = (IsClosing c x ⊎ HasEnded c x) ⊎ ((HasArrived c x → ⊥) × IsUnheard c past)

-- the message came on it, as the first there
pub record CameFirst (c : Conn) (m : Message) (x : Happened) (past : List Happened) : Type 0 where
  pub come : HasCome c m x
  pub first : IsUnheard c past

-- the message was sent on it
pub record WasSent (c : Conn) (m : Message) (x : Happened) : Type 0 where
  pub actions : List Action
  pub did : x.did ≡ Some actions
  pub sent : StandsAmong actions (Send c (octets_of m))

-- the CEA that accepts the CER was sent on the connection, on which the CER had come first, then or before
pub record IsAccepted (n : Node) (c : Conn) (cer : Message) (x : Happened) (past : List Happened) : Type 0 where
  pub answered : WasSent c (built_cea n cer.header success None) x
  pub heard : Once (λ y earlier. CameFirst c cer y earlier) (x ∷ past)

-- at the connection's Ack the CER with the number was sent on it
pub record IsAsked (n : Node) (c : Conn) (id : ℕ) (x : Happened) : Type 0 where
  pub acked : x.event ≡ Ack c
  pub sent : WasSent c (built_cer n id) x

-- the CEA came, with the number of a CER that had been sent so
pub record IsAnswered (n : Node) (c : Conn) (cea : Message) (x : Happened) (past : List Happened) : Type 0 where
  pub heard : HasCome c cea x
  pub asked : Once (λ y earlier. IsAsked n c cea.header.hop_id y) past

-- as responder: a good CER came on the connection as its first message, and was answered with success
pub record OpenedByCer (config : Config) (c : Conn) (past : List Happened) : Type 0 where
  pub cer : Message
  pub good : IsAcceptableCer config cer
  pub accepted : Once (IsAccepted config.node c cer) past

-- as initiator: the own CER was sent on it at its Ack, and a good CEA of its number came
pub record OpenedByCea (config : Config) (c : Conn) (past : List Happened) : Type 0 where
  pub cea : Message
  pub good : IsAcceptableCea config cea
  pub answered : Once (IsAnswered config.node c cea) past

-- by what a connection is to a peer: how it was opened
abbrev pub IsOpened : Config → Conn → List Happened → Hold → Type 0
IsOpened config c past OpenAsR = OpenedByCer config c past
IsOpened config c past OpenAsI = OpenedByCea config c past
IsOpened config c past h = ⊤

-- after every list of events a peer that was new is open only on a connection that was opened so
abbrev pub EachOpeningWasAsked : Type 0
EachOpeningWasAsked =
    (config : Config) (next : ℕ) (past : List Happened) (p : Peer) (c : Conn) →
    Became (new_peer config next) past p → IsOpened config c past (hold_of p.standing.core c)
