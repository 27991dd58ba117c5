-- How an input is read as an event of the table: by the place of the connection that it names, and the message's word.
use Rattle.std.specs.Prelude.{ℕ, ◌==◌, if◌then◌else◌, Option, Some, None, List, [], ◌∷◌}
use Rattle.dm_machine.specs.declared.connection.Conn.{Conn}
use Rattle.dm_machine.specs.declared.phase.Role.{Role}
use Rattle.dm_machine.specs.declared.phase.Role.TheVariants.{Initiated, Accepted}
use Rattle.dm_machine.specs.declared.state_name.State.{State}
use Rattle.dm_machine.specs.declared.state_name.State.TheVariants.{WaitICea, WaitReturns, ROpen, IOpen, Closing}
use Rattle.dm_machine.specs.declared.inputs.Input.{Input}
use Rattle.dm_machine.specs.declared.inputs.Input.TheVariants as input
use Rattle.dm_machine.specs.declared.inputs.Word.{Word}
use Rattle.dm_machine.specs.declared.inputs.Word.TheVariants.{Unreadable, Cer, CerRefused, Cea, CeaFailed, Dwr}
use Rattle.dm_machine.specs.declared.inputs.Word.TheVariants.{DwrBad, Dwa, DwaBad, Dpr, DprBad, Dpa, DpaBad, Other}
use Rattle.dm_machine.specs.Table.{TableEvent, Start, RConnCer, IRcvConnAck, IRcvConnNack, Timeout, IRcvCea, IRcvNonCea}
use Rattle.dm_machine.specs.Table.{IPeerDisc, RPeerDisc, SendMessage, XRcvMessage, XRcvDwr, XRcvDwa, Stop, XRcvDpr}
use Rattle.dm_machine.specs.Table.{XRcvDpa, XPeerDisc, RConnRefusedCer, RConnOther, XRcvExchange, XRcvRefusedRequest}
use Rattle.dm_machine.specs.Table.{XRcvBadDwa, XRcvBadDpa, FirstTick, SecondTick, ThirdTick, NoEvent}
use Rattle.dm_machine.specs.Node.{Node}

-- what a connection is to a node: I, R, x, or one that it doesn't hold
pub data Place : Type 0 where
  OnI : Place
  OnR : Place
  OnX : Place
  OnNew : Place

abbrev pub place_as : State → Role → Place
place_as ROpen role = OnX
place_as IOpen role = OnX
place_as Closing role = OnX
place_as _ Initiated = OnI
place_as _ Accepted = OnR

abbrev pub place_of : State → List (Role × Conn) → Conn → Place
place_of s [] c = OnNew
place_of s (p ∷ ps) c = if p.1.0 == c.0 then place_as s p.0 else place_of s ps c

-- the connection that an input names
abbrev pub conn_named : Input → Option Conn
conn_named (input.Start c) = Some c
conn_named (input.Ack c) = Some c
conn_named (input.Nack c) = Some c
conn_named (input.Gone c) = Some c
conn_named (input.Heard c w) = Some c
conn_named _ = None

-- the first message on a new connection
abbrev pub first_message : Word → TableEvent
first_message Cer = RConnCer
first_message CerRefused = RConnRefusedCer
first_message _ = RConnOther

-- a message on I: before its Ack it is dropped; in Wait-Returns all but a CEA is I-Peer-Disc
abbrev pub message_on_i : State → Word → TableEvent
message_on_i WaitICea Cea = IRcvCea
message_on_i WaitICea CeaFailed = IPeerDisc
message_on_i WaitICea Unreadable = IPeerDisc
message_on_i WaitICea _ = IRcvNonCea
message_on_i WaitReturns Cea = IRcvCea
message_on_i WaitReturns _ = IPeerDisc
message_on_i _ _ = NoEvent

-- a message on x
abbrev pub message_on_x : Word → TableEvent
message_on_x Unreadable = XPeerDisc
message_on_x Cer = XRcvExchange
message_on_x CerRefused = XRcvExchange
message_on_x Cea = XRcvExchange
message_on_x CeaFailed = XRcvExchange
message_on_x Dwr = XRcvDwr
message_on_x DwrBad = XRcvRefusedRequest
message_on_x Dwa = XRcvDwa
message_on_x DwaBad = XRcvBadDwa
message_on_x Dpr = XRcvDpr
message_on_x DprBad = XRcvRefusedRequest
message_on_x Dpa = XRcvDpa
message_on_x DpaBad = XRcvBadDpa
message_on_x Other = XRcvMessage

-- a message on R, which the peer holds only while it waits, is R-Peer-Disc
abbrev pub message_event : State → Word → Place → TableEvent
message_event s w OnI = message_on_i s w
message_event s w OnR = RPeerDisc
message_event s w OnX = message_on_x w
message_event s w OnNew = first_message w

-- the end of I before its Ack counts as Nack
abbrev pub end_of_i : State → TableEvent
end_of_i WaitICea = IPeerDisc
end_of_i WaitReturns = IPeerDisc
end_of_i _ = IRcvConnNack

abbrev pub end_event : State → Place → TableEvent
end_event s OnI = end_of_i s
end_event s OnR = RPeerDisc
end_event s OnX = XPeerDisc
end_event s OnNew = NoEvent

-- an Ack or a Nack speaks of I alone
abbrev pub connect_event : TableEvent → Place → TableEvent
connect_event e OnI = e
connect_event e _ = NoEvent

abbrev pub event_of_tick : ℕ → TableEvent
event_of_tick n = if n == 0 then FirstTick else (if n == 1 then SecondTick else ThirdTick)

-- the place of the connection that an input names, if it names one
abbrev pub place_in : Node → Option Conn → Place
place_in n None = OnNew
place_in n (Some c) = place_of n.state n.held c

-- the event by the state, the watchdog's count and that place
abbrev pub event_at : State → ℕ → Place → Input → TableEvent
event_at s n at (input.Start c) = Start
event_at s n at input.Stop = Stop
event_at s n at input.Timeout = Timeout
event_at s n at input.Tick = event_of_tick n
event_at s n at (input.Ack c) = connect_event IRcvConnAck at
event_at s n at (input.Nack c) = connect_event IRcvConnNack at
event_at s n at (input.Gone c) = end_event s at
event_at s n at input.Submit = SendMessage
event_at s n at (input.Heard c w) = message_event s w at

abbrev pub event_of : Node → Input → TableEvent
event_of n i = event_at n.state n.count (place_in n (conn_named i)) i
