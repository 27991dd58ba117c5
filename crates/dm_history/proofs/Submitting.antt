-- What is submitted, and is sent, spells a message of another command.
use Rattle.std.proofs.Common.{◌≡◌, ℕ, ◌==◌, Bool, true, false, not, Option, None, Some, List, if◌then◌else◌, refl, subst, ap}
use Rattle.dm_wire.specs.declared.message.Message.{Message}
use Rattle.dm_wire.specs.Whole.{message_in}
use Rattle.dm_base.specs.Commands.{is_base_command}
use Rattle.dm_machine.specs.declared.connection.Conn.{Conn}
use Rattle.dm_machine.specs.Connection.{Concern, StartsIt, AcksIt, NacksIt, EndsIt, HeardOnIt, if_named, concern_of}
use Rattle.dm_machine.specs.Moves.{is_open}
use Rattle.dm_machine.specs.Upward.{is_submitted}
use Rattle.dm_peer.specs.declared.actions.Action.{Action}
use Rattle.dm_peer.specs.declared.fault.PeerFault.TheVariants.{NotOpen, BadSubmit}
use Rattle.dm_peer.specs.declared.peer.Peer.{Peer}
use Rattle.dm_peer.specs.Events.{PeerEvent, Start, Stop, Timeout, Tick, Ack, Nack, Arrived, Gone, Submit, octets_in}
use Rattle.dm_peer.specs.Said.{Heard, word_heard}
use Rattle.dm_peer.specs.Acts.{Outcome, Moved, Refused, acts, input_of, steps, can_submit, submitted}
use Rattle.dm_history.specs.Carrying.{StandsOpen, SpellOther, IsPassedOn}

named_none : (b : Bool) (k : Concern) → is_submitted k ≡ false → is_submitted (if_named b k) ≡ true → ⊥
named_none true k e f = cc (e, f)
named_none false k e f = cc f

pub submitted_by : (e : PeerEvent) (h : Option Heard) (c : Conn) (s : List ℕ) →
    is_submitted (concern_of (input_of e h) c) ≡ true → octets_in e ≡ s → e ≡ Submit s
submitted_by (Submit t) h c s k is = ap Submit is
submitted_by (Arrived d t) h c s k is = absurd (named_none (d.0 == c.0) (HeardOnIt (word_heard h)) refl k)
submitted_by (Start d) h c s k is = absurd (named_none (d.0 == c.0) StartsIt refl k)
submitted_by (Ack d) h c s k is = absurd (named_none (d.0 == c.0) AcksIt refl k)
submitted_by (Nack d) h c s k is = absurd (named_none (d.0 == c.0) NacksIt refl k)
submitted_by (Gone d) h c s k is = absurd (named_none (d.0 == c.0) EndsIt refl k)
submitted_by (Stop cause) h c s k is = absurd (cc k)
submitted_by Timeout h c s k is = absurd (cc k)
submitted_by Tick h c s k is = absurd (cc k)

-- the outcome is none that is refused
taken_if : (b : Bool) (o : Outcome) (f : Outcome) (actions : List Action) (next : Peer) →
    (if b then o else f) ≡ Moved actions next → (f ≡ Moved actions next → ⊥) → (b ≡ true) × (o ≡ Moved actions next)
taken_if true o f actions next e refuses = (refl, e)
taken_if false o f actions next e refuses = absurd (refuses e)

not_base : (b : Bool) → not b ≡ true → b ≡ false
not_base true e = cc e
not_base false e = refl

other_said : (s : List ℕ) (o : Option Message) → message_in s ≡ o → can_submit o ≡ true → SpellOther s
other_said s None is can = absurd (cc can)
other_said s (Some m) is can =
    record { message = m; spelled = is; other = not_base (is_base_command m.header.command) can }

-- a Submit that is done is a step of the state machine, in an open state
pub submit_steps : (p : Peer) (s : List ℕ) (actions : List Action) (next : Peer) →
    acts p (Submit s) ≡ Moved actions next →
    (is_open p.standing.core.state ≡ true) × (steps p (Submit s) None ≡ Moved actions next)
submit_steps p s actions next is =
    let opened = taken_if (is_open p.standing.core.state) (submitted p (Submit s) (message_in s)) (Refused NotOpen)
    actions next is (λ e. cc e) in
    let can = taken_if (can_submit (message_in s)) (steps p (Submit s) None) (Refused BadSubmit) actions next opened.1
    (λ e. cc e) in
    (opened.0, can.1)

taken_other : (p : Peer) (s : List ℕ) (actions : List Action) (next : Peer) →
    acts p (Submit s) ≡ Moved actions next → SpellOther s
taken_other p s actions next is =
    let opened = taken_if (is_open p.standing.core.state) (submitted p (Submit s) (message_in s)) (Refused NotOpen)
    actions next is (λ e. cc e) in
    let can = taken_if (can_submit (message_in s)) (steps p (Submit s) None) (Refused BadSubmit) actions next opened.1
    (λ e. cc e) in
    other_said s (message_in s) refl can.0

pub passed_on : (p : Peer) (e : PeerEvent) (actions : List Action) (next : Peer) → acts p e ≡ Moved actions next →
    (c : Conn) (s : List ℕ) → e ≡ Submit s → StandsOpen p c → IsPassedOn p e c s
passed_on p e actions next is c s event opened =
    record {
      submitted = event;
      opened = opened;
      said = taken_other p s actions next (subst (λ (f : PeerEvent). acts p f ≡ Moved actions next) event is);
    }
