-- How long an open connection stays open, and what the watchdog counts on it (RFC 6733, 5.4 to 5.6; RFC 3539, 3.4.1).
use Rattle.std.specs.Prelude.{◌≡◌, ℕ, ◌+◌, Bool, true, false, not, ◌&&◌, ◌||◌, ◌==◌, Option}
use Rattle.std.specs.Prelude.{None, Some, is_some, Result, Ok, List, [], ◌∷◌, if◌then◌else◌}
use Rattle.dm_wire.specs.declared.message.Header.{Header}
use Rattle.dm_wire.specs.declared.message.Message.{Message}
use Rattle.dm_wire.specs.Whole.{message_in}
use Rattle.dm_dict.specs.Faults.{Fault}
use Rattle.dm_base.specs.declared.base_command.BaseCommand.{BaseCommand}
use Rattle.dm_base.specs.declared.base_command.BaseCommand.TheVariants.{CapabilitiesExchange}
use Rattle.dm_base.specs.declared.kind.Kind.{Kind}
use Rattle.dm_base.specs.declared.kind.Kind.TheVariants as kinds
use Rattle.dm_base.specs.Commands.{base_command}
use Rattle.dm_base.specs.Kinds.{kind}
use Rattle.dm_machine.specs.declared.connection.Conn.{Conn}
use Rattle.dm_machine.specs.Connection.{hold_of}
use Rattle.dm_machine.specs.Upward.{is_open_hold}
use Rattle.dm_peer.specs.declared.actions.Action.{Action}
use Rattle.dm_peer.specs.declared.config.Config.{Config}
use Rattle.dm_peer.specs.declared.peer.Peer.{Peer}
use Rattle.dm_peer.specs.Events.{PeerEvent, Stop, Tick, Gone, Arrived}
use Rattle.dm_peer.specs.Acts.{Moved, acts}
use Rattle.dm_peer.specs.Silence.{drops}
use Rattle.dm_peer.specs.Settled.{IsSettled}
use Rattle.dm_history.specs.History.{Happened, Became}
use Rattle.dm_history.specs.Carrying.{StandsOpen}
use Rattle.dm_history.specs.Replaying.{peer_after}

-- a CER, good or not
abbrev pub is_exchange : Option BaseCommand → Bool
is_exchange (Some CapabilitiesExchange) = true
is_exchange _ = false

abbrev pub asks_exchange : Header → Bool
asks_exchange h = h.request && is_exchange (base_command h.command)

-- a DPR that passes its check
abbrev pub is_disconnect : Result Kind Fault → Bool
is_disconnect (Ok (kinds.Dpr cause)) = true
is_disconnect _ = false

-- what comes ends an open connection: octets that are no message, a CER, a good DPR
abbrev pub ends_at_message : Config → Option Message → Bool
ends_at_message config None = true
ends_at_message config (Some m) = asks_exchange m.header || is_disconnect (kind config.dictionary m)

-- and so do a Stop, its disconnect, and the third Tick since something came
abbrev pub ends_open : Peer → Conn → PeerEvent → Bool
ends_open p c (Stop cause) = true
ends_open p c Tick = p.standing.core.count == 2
ends_open p c (Gone d) = d.0 == c.0
ends_open p c (Arrived d s) = (d.0 == c.0) && ends_at_message p.config (message_in s)
ends_open p c _ = false

-- an open connection stays open exactly at the other events
abbrev pub EachOpenStays : Type 0
EachOpenStays =
    (p : Peer) (c : Conn) (e : PeerEvent) (actions : List Action) (next : Peer) →
    IsSettled p → StandsOpen p c → acts p e ≡ Moved actions next →
    is_open_hold (hold_of next.standing.core c) ≡ not (ends_open p c e)

-- none of the events that were done ended it
abbrev pub never_ends : Peer → Conn → List Happened → Bool
never_ends first c [] = true
never_ends first c (x ∷ past) =
    never_ends first c past && not (is_some x.did && ends_open (peer_after first past) c x.event)

-- so it is open until one does
abbrev pub EachOpenLasts : Type 0
EachOpenLasts =
    (first : Peer) (past : List Happened) (p : Peer) (c : Conn) →
    IsSettled first → Became first past p → StandsOpen first c → never_ends first c past ≡ true → StandsOpen p c

-- the Ticks since something came on the connection, after an event at which it was open; an answer that is dropped is
-- nothing that came
abbrev pub ticks_at : Peer → Conn → PeerEvent → ℕ → ℕ
ticks_at p c Tick n = n + 1
ticks_at p c (Arrived d s) n = if (d.0 == c.0) && not (drops p c (message_in s)) then 0 else n
ticks_at p c _ n = n

abbrev pub ticks_told : Peer → Conn → Happened → ℕ → ℕ
ticks_told p c x n =
    if is_some x.did
    then (if is_open_hold (hold_of p.standing.core c) then ticks_at p c x.event n else 0)
    else n

-- those since something came on it, since it was opened, or ever
abbrev pub ticks_since : Peer → Conn → List Happened → ℕ
ticks_since first c [] = first.standing.core.count
ticks_since first c (x ∷ past) = ticks_told (peer_after first past) c x (ticks_since first c past)

-- the watchdog's count of an open peer is that number
abbrev pub EachCountIsOfTicks : Type 0
EachCountIsOfTicks =
    (first : Peer) (past : List Happened) (p : Peer) (c : Conn) →
    IsSettled first → Became first past p → StandsOpen p c → p.standing.core.count ≡ ticks_since first c past
