-- The state machine as peers moves as the state machine.
use Rattle.std.proofs.Common.{◌≡◌, List, [], ◌∷◌, map, refl, sym, ap, ◌∙◌, inl}
use Rattle.dm_two_peers.specs.Machine.{Command, machine_outcome}
use Rattle.dm_machine.specs.declared.inputs.Word.{Word}
use Rattle.dm_machine.specs.declared.inputs.Word.TheVariants.{Other}
use Rattle.dm_machine.specs.declared.outputs.Command.TheVariants as command
use Rattle.dm_machine.specs.Moves.{NodeOutcome, NodeMoved, NodeRefused}
use Rattle.dm_machine.specs.Deeds.{Deed, deed_of_command}
use Rattle.dm_two_peers.specs.Peers.{Event, StartEvent, StopEvent, TimeoutEvent, TickEvent, AckEvent, NackEvent, GoneEvent, SubmitEvent, ArrivedEvent}
use Rattle.dm_two_peers.specs.Peers.{deed_in}
use Rattle.dm_two_peers.specs.Follows.{input_told, IsRefusedByMachine, MayDecline, FollowsMachine}
use Rattle.dm_two_peers.specs.Kinds.{KindPeer, kind_input, kind_action, reply_by, kinds, KindsAreAMachine, TwoRuns}

same_deed : (a : Command) → deed_in (kind_action a) ≡ deed_of_command a
same_deed (command.Connect c) = refl
same_deed (command.SendCer c) = refl
same_deed (command.SendCea c) = refl
same_deed (command.SendRefusal c) = refl
same_deed (command.SendDwr c) = refl
same_deed (command.SendDwa c) = refl
same_deed (command.SendDpr c) = refl
same_deed (command.SendDpa c) = refl
same_deed (command.SendSubmit c) = refl
same_deed (command.Close c) = refl
same_deed command.Up = refl

same_deeds : (commands : List Command) → map deed_in (map kind_action commands) ≡ map deed_of_command commands
same_deeds [] = refl
same_deeds (a ∷ more) =
    ap (λ (o : Deed). o ∷ map deed_in (map kind_action more)) (same_deed a)
    ∙ ap (λ (os : List Deed). deed_of_command a ∷ os) (same_deeds more)

word_in : Event Word → Word
word_in (ArrivedEvent c w) = w
word_in _ = Other

same_input : (e : Event Word) → kind_input e ≡ input_told e (word_in e)
unfolding word_in
same_input (StartEvent c) = refl
same_input (StopEvent cause) = refl
same_input TimeoutEvent = refl
same_input TickEvent = refl
same_input (AckEvent c) = refl
same_input (NackEvent c) = refl
same_input (GoneEvent c) = refl
same_input (SubmitEvent w) = refl
same_input (ArrivedEvent c w) = refl

may_decline_proof : (p : KindPeer) (e : Event Word) → IsRefusedByMachine kinds p e → MayDecline kinds p e
may_decline_proof p (SubmitEvent w) h = tt
may_decline_proof p (StartEvent c) h = h
may_decline_proof p (StopEvent cause) h = h
may_decline_proof p TimeoutEvent h = h
may_decline_proof p TickEvent h = h
may_decline_proof p (AckEvent c) h = h
may_decline_proof p (NackEvent c) h = h
may_decline_proof p (GoneEvent c) h = h
may_decline_proof p (ArrivedEvent c w) h = h

follows_by : (p : KindPeer) (e : Event Word) (o : NodeOutcome) → machine_outcome p.node (kind_input e) p.wins ≡ o →
    FollowsMachine kinds p e (reply_by p.wins o)
follows_by p e (NodeRefused r) h =
    may_decline_proof p e
    (record {
      word = word_in e;
      wins = p.wins;
      refusal = r;
      refuses = ap (λ i. machine_outcome p.node i p.wins) (sym (same_input e)) ∙ h;
    })
follows_by p e (NodeMoved commands n) h =
    inl (record {
      input = kind_input e;
      word = word_in e;
      wins = p.wins;
      commands = commands;
      told = same_input e;
      moves = h;
      deeds = same_deeds commands;
    })

pub kinds_are_a_machine_proof : KindsAreAMachine
kinds_are_a_machine_proof =
    record { follows = λ p e. follows_by p e (machine_outcome p.node (kind_input e) p.wins) refl; resets = λ p. refl }

pub two_runs_proof : TwoRuns
two_runs_proof = record { one_side = (refl, refl); both_sides = (refl, refl) }
