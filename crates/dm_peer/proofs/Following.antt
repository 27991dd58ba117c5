-- Each event is one step of the state machine.
use Rattle.std.proofs.Common.{◌≡◌, Bool, true, Option, List, [], ◌∷◌, map, refl, sym, ap, ◌∙◌, inl, inr}
use Rattle.std.proofs.lemmas.Bool.{and_parts}
use Rattle.dm_machine.specs.declared.inputs.Input.{Input}
use Rattle.dm_machine.specs.declared.outputs.Command.{Command}
use Rattle.dm_machine.specs.declared.outputs.Command.TheVariants as command
use Rattle.dm_machine.specs.Node.{Node}
use Rattle.dm_machine.specs.Connection.{hold_of}
use Rattle.dm_machine.specs.Moves as moves
use Rattle.dm_machine.specs.Moves.{machine_outcome}
use Rattle.dm_machine.specs.Deeds.{deed_of_command}
use Rattle.dm_machine.specs.EachStep.{EachStepHolds}
use Rattle.dm_peer.specs.declared.peer.Peer.{Peer}
use Rattle.dm_peer.specs.Events.{PeerEvent}
use Rattle.dm_peer.specs.Configs.{wins}
use Rattle.dm_peer.specs.Said.{Heard}
use Rattle.dm_peer.specs.Sent.{action_of}
use Rattle.dm_peer.specs.Acts.{Outcome, turned, input_of, outcome_of, steps, is_made, is_unawaited, acts}
use Rattle.dm_peer.specs.Settled.{IsSettled}
use Rattle.dm_peer.specs.Steps.{deed_of, Follows, EachEventIsOneStep}
use Rattle.dm_peer.specs.Cases.{Case, step, drop, refusal}
use Rattle.dm_peer.proofs.Cases.{cases}
use Rattle.dm_peer.proofs.Few.{are_asked, facts}
use Rattle.dm_peer.proofs.Asking.{fits, heard_fits, all_there}

deed_kept : (p : Peer) (e : PeerEvent) (h : Option Heard) (c : Command) →
    deed_of (action_of p e h c) ≡ deed_of_command c
deed_kept p e h (command.Connect c) = refl
deed_kept p e h (command.SendCer c) = refl
deed_kept p e h (command.SendCea c) = refl
deed_kept p e h (command.SendRefusal c) = refl
deed_kept p e h (command.SendDwr c) = refl
deed_kept p e h (command.SendDwa c) = refl
deed_kept p e h (command.SendDpr c) = refl
deed_kept p e h (command.SendDpa c) = refl
deed_kept p e h (command.SendSubmit c) = refl
deed_kept p e h (command.Close c) = refl
deed_kept p e h command.Up = refl

deeds_kept : (p : Peer) (e : PeerEvent) (h : Option Heard) (l : List Command) →
    map deed_of (map (action_of p e h) l) ≡ map deed_of_command l
deeds_kept p e h [] = refl
deeds_kept p e h (c ∷ l) = rw (deed_kept p e h c, deeds_kept p e h l) refl

pub turned_is : (n : Node) (i : Input) (w : Bool) → turned n i w ≡ machine_outcome n i w
unfolding turned
turned_is n i w = refl

by_outcome : (p : Peer) (e : PeerEvent) (h : Option Heard) → fits h ≡ true → (o : moves.NodeOutcome) →
    machine_outcome p.standing.core (input_of e h) (wins p.config) ≡ o →
    (IsSettled p → are_asked p.standing.core.state (input_of e h) o ≡ true) → Follows p e (outcome_of p e h o)
by_outcome p e h fit (moves.NodeRefused r) is asked = tt
by_outcome p e h fit (moves.NodeMoved commands core) is asked =
    inl (record {
      heard = h;
      commands = commands;
      moves = is;
      done = refl;
      deeds = deeds_kept p e h commands;
      told = λ settled. all_there p e h settled.waiting fit commands (asked settled);
      config = refl;
    })

step_follows : EachStepHolds → (p : Peer) (e : PeerEvent) (h : Option Heard) → fits h ≡ true →
    Follows p e (steps p e h)
step_follows few p e h fit =
    let n = p.standing.core in
    let i = input_of e h in
    let w = wins p.config in
    let same = turned_is n i w in
    by_outcome p e h fit (turned n i w) (sym same)
    (λ settled. ap (are_asked n.state i) same ∙ (facts few n i w settled.shaped).asked)

by_case : EachStepHolds → (p : Peer) (e : PeerEvent) (o : Outcome) → Case p e o → Follows p e o
by_case few p e o (step e' h hears) = step_follows few p e' h (heard_fits p e' h hears)
by_case few p e o (drop c s m read is dropped) =
    inr (record {
      conn = c;
      octets = s;
      arrived = refl;
      made = (and_parts (is_made (hold_of p.standing.core c)) (is_unawaited p.standing.awaited m.header) dropped).0;
      silent = refl;
      same = refl;
    })
by_case few p e o (refusal s f is) = tt

pub one_step : EachStepHolds → EachEventIsOneStep
one_step few p e = by_case few p e (acts p e) (cases p e)
