-- At a Start, at a Timeout, and where nothing is read, nothing is sent or handed up.
use Rattle.std.proofs.Common.{◌≡◌, ℕ, Bool, true, false, not, ◌||◌, Option, None, Some, List, [], ◌∷◌, map, IsTrue, refl, ap, ◌∙◌}
use Rattle.std.specs.List.{list_all, list_any}
use Rattle.dm_wire.specs.declared.message.Message.{Message}
use Rattle.dm_wire.specs.Whole.{message_in}
use Rattle.dm_machine.specs.declared.connection.Conn.{Conn}
use Rattle.dm_machine.specs.declared.inputs.Input.TheVariants as input
use Rattle.dm_machine.specs.declared.inputs.Word.TheVariants.{Unreadable}
use Rattle.dm_machine.specs.declared.outputs.Command.{Command}
use Rattle.dm_machine.specs.declared.outputs.Command.TheVariants as command
use Rattle.dm_machine.specs.Node.{Node, is_shaped}
use Rattle.dm_machine.specs.Connection.{Hold, NotHeld, Pending, hold_of}
use Rattle.dm_machine.specs.Moves as moves
use Rattle.dm_machine.specs.Moves.{machine_outcome}
use Rattle.dm_machine.specs.Unread.{ClosesUnread, DropsBeforeAck}
use Rattle.dm_machine.specs.EachStep.{EachStepHolds}
use Rattle.dm_peer.specs.declared.peer.Peer.{Peer}
use Rattle.dm_peer.specs.Events.{PeerEvent, Start, Stop, Timeout, Arrived}
use Rattle.dm_peer.specs.Configs.{wins}
use Rattle.dm_peer.specs.Said.{Heard}
use Rattle.dm_peer.specs.Sent.{action_of, takes_memory}
use Rattle.dm_peer.specs.Acts.{Outcome, turned, input_of, outcome_of, steps, is_unread, wants_memory, acts}
use Rattle.dm_peer.specs.Silence.{drops, is_silent, SilentTakesNone}
use Rattle.dm_peer.specs.Cases.{is_deaf, Hears, unread, no_message, message, submits_it, bare, Case, step, drop, refusal}
use Rattle.dm_peer.proofs.Cases.{cases}
use Rattle.dm_peer.proofs.Few.{is_light, are_light, is_quiet, facts}
use Rattle.dm_peer.proofs.Following.{turned_is}

light : (p : Peer) (e : PeerEvent) (h : Option Heard) (l : List Command) →
    list_all is_light l ≡ true → list_any takes_memory (map (action_of p e h) l) ≡ false
light p e h [] is = refl
light p e h (command.Connect c ∷ l) is = light p e h l is
light p e h (command.Close c ∷ l) is = light p e h l is
light p e h (_ ∷ l) is = absurd cc

light_outcome : (p : Peer) (e : PeerEvent) (h : Option Heard) (o : moves.NodeOutcome) →
    are_light o ≡ true → wants_memory (outcome_of p e h o) ≡ false
light_outcome p e h (moves.NodeMoved commands n) is = light p e h commands is
light_outcome p e h (moves.NodeRefused r) is = refl

light_step : (p : Peer) (e : PeerEvent) (h : Option Heard) →
    are_light (machine_outcome p.standing.core (input_of e h) (wins p.config)) ≡ true → wants_memory (steps p e h) ≡ false
light_step p e h is =
    let i = input_of e h in
    let w = wins p.config in
    let n = p.standing.core in
    light_outcome p e h (turned n i w) (ap are_light (turned_is n i w) ∙ is)

unread_light : ClosesUnread → DropsBeforeAck →
    (n : Node) (c : Conn) (w : Bool) → IsTrue (is_shaped n) →
    (h : Hold) → hold_of n c ≡ h → is_unread n.state h ≡ true →
    are_light (machine_outcome n (input.Heard c Unreadable) w) ≡ true
unread_light law before n c w shaped NotHeld e is = ap are_light (law n c Unreadable w shaped is e)
unread_light law before n c w shaped Pending e is = ap are_light (before n c Unreadable w shaped e)
unread_light law before n c w shaped _ e is = absurd cc

-- what is read isn't silent, but for what is dropped
not_silent : (deaf gone : Bool) → deaf ≡ false → gone ≡ false → (deaf || gone) ≡ true → ⊥
not_silent deaf gone d g is = cc (d, g, is)

drops_as : (p : Peer) (c : Conn) (s : List ℕ) (o : Option Message) → message_in s ≡ o →
    drops p c (message_in s) ≡ drops p c o
drops_as p c s o is = ap (drops p c) is

light_quiet : (q l : Bool) → (not q || l) ≡ true → q ≡ true → l ≡ true
light_quiet true l fact is = fact
light_quiet false l fact is = absurd (cc is)

bare_light : EachStepHolds → (p : Peer) (e : PeerEvent) → IsTrue (is_shaped p.standing.core) →
    is_quiet (input_of e None) ≡ true → wants_memory (steps p e None) ≡ false
bare_light few p e shaped quiet =
    let n = p.standing.core in
    let i = input_of e None in
    let w = wins p.config in
    light_step p e None (light_quiet (is_quiet i) (are_light (machine_outcome n i w)) (facts few n i w shaped).light quiet)

step_light : EachStepHolds → ClosesUnread → DropsBeforeAck →
    (p : Peer) (e : PeerEvent) (h : Option Heard) → IsTrue (is_shaped p.standing.core) → is_silent p e ≡ true →
    Hears p e h → wants_memory (steps p e h) ≡ false
step_light few law before p e h shaped is (unread c s deaf) =
    let n = p.standing.core in
    light_step p (Arrived c s) None
    (unread_light law before n c (wins p.config) shaped (hold_of n c) refl deaf)
step_light few law before p e h shaped is (no_message c s read none) =
    absurd (not_silent (is_deaf p c) (drops p c (message_in s)) read (drops_as p c s None none) is)
step_light few law before p e h shaped is (message c s m read heard kept) =
    absurd (not_silent (is_deaf p c) (drops p c (message_in s)) read (drops_as p c s (Some m) heard ∙ kept) is)
step_light few law before p e h shaped is (submits_it s opened can) = absurd (cc is)
step_light few law before p e h shaped is (bare (Start c) plain) = bare_light few p (Start c) shaped refl
step_light few law before p e h shaped is (bare Timeout plain) = bare_light few p Timeout shaped refl
step_light few law before p e h shaped is (bare (Arrived c s) plain) = absurd (cc plain)
step_light few law before p e h shaped is (bare (Stop cause) plain) = absurd (cc is)
step_light few law before p e h shaped is (bare _ plain) = absurd (cc is)

by_case : EachStepHolds → ClosesUnread → DropsBeforeAck →
    (p : Peer) (e : PeerEvent) (o : Outcome) → IsTrue (is_shaped p.standing.core) → is_silent p e ≡ true →
    Case p e o → wants_memory o ≡ false
by_case few law before p e o shaped is (step e' h hears) = step_light few law before p e' h shaped is hears
by_case few law before p e o shaped is (drop c s m read heard dropped) = refl
by_case few law before p e o shaped is (refusal s f by) = refl

pub silent_takes_none : EachStepHolds → ClosesUnread → DropsBeforeAck → SilentTakesNone
silent_takes_none few law before p e shaped is = by_case few law before p e (acts p e) shaped is (cases p e)
