-- The cases of an event.
use Rattle.std.proofs.Common.{◌≡◌, ℕ, Bool, true, false, Option, None, Some, List, [], if◌then◌else◌, refl}
use Rattle.dm_wire.specs.declared.message.Message.{Message}
use Rattle.dm_wire.specs.Whole.{message_in}
use Rattle.dm_machine.specs.declared.connection.Conn.{Conn}
use Rattle.dm_machine.specs.Moves.{is_open}
use Rattle.dm_peer.specs.declared.fault.PeerFault.TheVariants.{NotOpen, BadSubmit}
use Rattle.dm_peer.specs.declared.peer.Peer.{Peer}
use Rattle.dm_peer.specs.Events.{Start, Stop, Timeout, Tick, Ack, Nack, Arrived, Gone, Submit}
use Rattle.dm_peer.specs.Said.{heard_in}
use Rattle.dm_peer.specs.Acts.{Moved, Refused, steps, is_dropped, heard_outcome, can_submit}
use Rattle.dm_peer.specs.Cases.{is_deaf, unread, no_message, message, submits_it, bare, Case, step, drop, refusal, EachEventIsACase}

message_case : (p : Peer) (c : Conn) (s : List ℕ) (m : Message) → is_deaf p c ≡ false → message_in s ≡ Some m →
    (b : Bool) → is_dropped p c m.header ≡ b →
    Case p (Arrived c s) (if b then Moved [] p else steps p (Arrived c s) (Some (heard_in p.config m)))
message_case p c s m read is true dropped = drop c s m read is dropped
message_case p c s m read is false dropped =
    step (Arrived c s) (Some (heard_in p.config m)) (message c s m read is dropped)

read_case : (p : Peer) (c : Conn) (s : List ℕ) → is_deaf p c ≡ false → (o : Option Message) → message_in s ≡ o →
    Case p (Arrived c s) (heard_outcome p (Arrived c s) c o)
read_case p c s read None is = step (Arrived c s) None (no_message c s read is)
read_case p c s read (Some m) is = message_case p c s m read is (is_dropped p c m.header) refl

arrived_case : (p : Peer) (c : Conn) (s : List ℕ) (b : Bool) → is_deaf p c ≡ b →
    Case p (Arrived c s) (if b then steps p (Arrived c s) None else heard_outcome p (Arrived c s) c (message_in s))
arrived_case p c s true deaf = step (Arrived c s) None (unread c s deaf)
arrived_case p c s false deaf = read_case p c s deaf (message_in s) refl

submit_case : (p : Peer) (s : List ℕ) (opened can : Bool) → is_open p.standing.core.state ≡ opened →
    can_submit (message_in s) ≡ can →
    Case p (Submit s) (if opened then (if can then steps p (Submit s) None else Refused BadSubmit) else Refused NotOpen)
submit_case p s true true opened can = step (Submit s) None (submits_it s opened can)
submit_case p s true false opened can = refusal s BadSubmit (rw (opened, can) refl)
submit_case p s false can opened is = refusal s NotOpen (rw opened refl)

pub cases : EachEventIsACase
cases p (Arrived c s) = arrived_case p c s (is_deaf p c) refl
cases p (Submit s) = submit_case p s (is_open p.standing.core.state) (can_submit (message_in s)) refl refl
cases p (Start c) = step (Start c) None (bare (Start c) refl)
cases p (Stop cause) = step (Stop cause) None (bare (Stop cause) refl)
cases p Timeout = step Timeout None (bare Timeout refl)
cases p Tick = step Tick None (bare Tick refl)
cases p (Ack c) = step (Ack c) None (bare (Ack c) refl)
cases p (Nack c) = step (Nack c) None (bare (Nack c) refl)
cases p (Gone c) = step (Gone c) None (bare (Gone c) refl)
