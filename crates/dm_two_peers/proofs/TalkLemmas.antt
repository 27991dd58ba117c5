-- The state machine with numbers makes peers that elect.
use Rattle.std.proofs.Common.{◌≡◌, ℕ, Bool, true, false, not, ◌&&◌, ◌||◌, Option, Some, None, List, [], ◌∷◌, map}
use Rattle.std.proofs.Common.{if◌then◌else◌, refl, ap, subst}
use Rattle.std.specs.Prelude.{is_none}
use Rattle.dm_machine.specs.declared.outputs.Command.TheVariants as command
use Rattle.dm_machine.specs.declared.state_name.State.{State}
use Rattle.dm_machine.specs.Connection.{Hold, NotHeld, Made, hold_of}
use Rattle.dm_machine.specs.Moves.{NodeOutcome, NodeMoved, NodeRefused}
use Rattle.dm_two_peers.specs.Machine.{Input, Command, machine_outcome}
use Rattle.dm_two_peers.specs.Links.{Side}
use Rattle.dm_two_peers.specs.Peers.{Event, Send}
use Rattle.dm_machine.specs.Awaiting.{holds_cer, waiting_after}
use Rattle.dm_two_peers.specs.Electing.{IsPeerOf, IsReadAs, reads_start, reads_ack, reads_end, reads_cer, leaves_cer}
use Rattle.dm_two_peers.specs.Electing.{reads_cea, IsSaid, AreSaid, RepliesAs}
use Rattle.dm_two_peers.specs.Talkers.{Note, Talker, is_unheld, is_unread_by, talker_input, talker_heard, number_or_zero}
use Rattle.dm_two_peers.specs.Talkers.{talker_action, talk_by, talkers, talk_of_talkers, TalkersAreElecting, TwoTalks}
use Rattle.dm_two_peers.specs.Talkers.{note_of}
use Rattle.dm_machine.specs.declared.inputs.Word.TheVariants.{Cea}

said_at : (s : Side) (p : Talker) (heard : Option ℕ) → p.wins ≡ talk_of_talkers.config s → (c : Command) →
    IsSaid talk_of_talkers s p heard c (talker_action p heard c)
said_at s p heard e (command.Connect c) = refl
said_at s p heard e (command.SendCer c) = refl
said_at s p heard e (command.SendCea c) = λ n h. ap (λ o. Send c (note_of Cea (number_or_zero o))) h
said_at s p heard e (command.SendRefusal c) = tt
said_at s p heard e (command.SendDwr c) = tt
said_at s p heard e (command.SendDwa c) = tt
said_at s p heard e (command.SendDpr c) = tt
said_at s p heard e (command.SendDpa c) = tt
said_at s p heard e (command.SendSubmit c) = tt
said_at s p heard e (command.Close c) = refl
said_at s p heard e command.Up = tt

all_said : (s : Side) (p : Talker) (heard : Option ℕ) → p.wins ≡ talk_of_talkers.config s → (commands : List Command) →
    AreSaid talk_of_talkers s p heard commands (map (talker_action p heard) commands)
all_said s p heard e [] = tt
all_said s p heard e (c ∷ more) = (said_at s p heard e c, all_said s p heard e more)

stands_after : (from next : State) (heard old : Option ℕ) →
    (holds_cer next || is_none (waiting_after from heard next old)) ≡ true
stands_after from next heard old = stands_if (holds_cer next) (holds_cer from) heard old
  where
    stands_if : (b c : Bool) (heard old : Option ℕ) →
        (b || is_none (if b then (if c then old else heard) else None)) ≡ true
    stands_if true c heard old = refl
    stands_if false c heard old = refl

talks_by : (s : Side) (p : Talker) (heard : Option ℕ) (o : NodeOutcome) → IsPeerOf talk_of_talkers s p →
    RepliesAs talkers talk_of_talkers s p heard o (talk_by p heard o)
talks_by s p heard (NodeRefused r) is = refl
talks_by s p heard (NodeMoved commands n) is =
    record {
      actions = map (talker_action p heard) commands;
      peer = _;
      replies = refl;
      node = refl;
      same = record { configured = is.configured; stands = stands_after p.node.state n.state heard p.waiting };
      said = all_said s p heard is.configured commands;
      awaited = refl;
      waiting = refl;
    }

-- the reply at an input that the event is read as
replies_at : (s : Side) (p : Talker) (e : Event Note) (i : Input) (heard : Option ℕ) → IsPeerOf talk_of_talkers s p →
    talker_input p e ≡ i → talker_heard p e ≡ heard →
    RepliesAs talkers talk_of_talkers s p heard (machine_outcome p.node i (talk_of_talkers.wins s)) (talkers.reply p e)
replies_at s p e i heard is at_i at_h =
    subst (λ j. RepliesAs talkers talk_of_talkers s p heard (machine_outcome p.node j (talk_of_talkers.wins s))
    (talkers.reply p e)) at_i
    (subst (λ h. RepliesAs talkers talk_of_talkers s p h (machine_outcome p.node (talker_input p e) (talk_of_talkers.wins s))
    (talkers.reply p e))
    at_h
    (subst (λ b. RepliesAs talkers talk_of_talkers s p (talker_heard p e) (machine_outcome p.node (talker_input p e) b)
    (talkers.reply p e))
    is.configured
    (talks_by s p (talker_heard p e) (machine_outcome p.node (talker_input p e) p.wins) is)))

unread_reads : (first : Bool) (h : Hold) → first ≡ true → (not first && is_unheld h) ≡ false
unread_reads true h e = refl
unread_reads false h e = cc

unread_passes : (first : Bool) (h : Hold) → not first ≡ true → h ≡ NotHeld → (not first && is_unheld h) ≡ true
unread_passes true h e g = cc
unread_passes false h e g = ap is_unheld g

unread_made : (first : Bool) (h : Hold) → h ≡ Made → (not first && is_unheld h) ≡ false
unread_made true h g = refl
unread_made false h g = ap is_unheld g

if_true : {X : Type 0} (b : Bool) (x y : X) → b ≡ true → (if b then x else y) ≡ x
if_true true x y e = refl
if_true false x y e = cc

if_false : {X : Type 0} (b : Bool) (x y : X) → b ≡ false → (if b then x else y) ≡ y
if_false true x y e = cc
if_false false x y e = refl

talker_replies : (s : Side) (p : Talker) (e : Event Note) (i : Input) (heard : Option ℕ) →
    IsPeerOf talk_of_talkers s p →
    IsReadAs talkers talk_of_talkers s p e i heard →
    RepliesAs talkers talk_of_talkers s p heard (machine_outcome p.node i (talk_of_talkers.wins s)) (talkers.reply p e)
talker_replies s p e i heard is (reads_start c) = replies_at s p e i heard is refl refl
talker_replies s p e i heard is (reads_ack c) = replies_at s p e i heard is refl refl
talker_replies s p e i heard is (reads_end c) = replies_at s p e i heard is refl refl
talker_replies s p e i heard is (reads_cer c n number first new) =
    let reads = unread_reads _ (hold_of p.node c) first in
    replies_at s p e i heard is (if_false (is_unread_by p c) _ _ reads) (if_false (is_unread_by p c) _ _ reads)
talker_replies s p e i heard is (leaves_cer c n first new) =
    let reads = unread_passes _ (hold_of p.node c) first new in
    replies_at s p e i heard is (if_true (is_unread_by p c) _ _ reads) (if_true (is_unread_by p c) _ _ reads)
talker_replies s p e i heard is (reads_cea c n number awaited made) =
    let reads = unread_made _ (hold_of p.node c) made in
    replies_at s p e i heard is (if_false (is_unread_by p c) _ _ reads) (if_false (is_unread_by p c) _ _ reads)

none_of : (b : Bool) (o : Option ℕ) → (b || is_none o) ≡ true → not b ≡ true → o ≡ None
none_of true o h e = cc
none_of false None h e = refl
none_of false (Some n) h e = cc

pub talkers_are_electing_proof : TalkersAreElecting
talkers_are_electing_proof =
    record {
      one_wins = refl;
      numbers = λ p h. refl;
      keeps_none = λ p h free. none_of (holds_cer p.node.state) p.waiting h free;
      replies = talker_replies;
    }

pub two_talks_proof : TwoTalks
two_talks_proof =
    record {
      one_side = (refl, refl);
      its_link = refl;
      both_sides = (refl, refl);
      one_course = refl;
      both_courses = refl;
      kept_link = refl;
    }
