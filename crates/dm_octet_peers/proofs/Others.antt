-- No event but a Submit sends a message of an application, and a peer keeps waiting well.
use Rattle.std.proofs.Common.{◌≡◌, ℕ, Bool, true, false, not, ◌||◌, Option, None, Some, List, [], ◌∷◌, if◌then◌else◌, ◌⊎◌, inl, inr, refl, sym, ap, subst}
use Rattle.std.specs.Prelude.{⊤}
use Rattle.std.specs.List.{list_all}
use Rattle.std.proofs.lemmas.Bool.{and_parts, and_from}
use Rattle.dm_wire.specs.declared.message.Header.{Header}
use Rattle.dm_wire.specs.declared.message.Message.{Message}
use Rattle.dm_dict.specs.Faults.{Fault}
use Rattle.dm_base.specs.declared.node.Node as base
use Rattle.dm_base.specs.declared.base_command.BaseCommand.{BaseCommand}
use Rattle.dm_base.specs.declared.base_command.BaseCommand.TheVariants.{CapabilitiesExchange, DeviceWatchdog, DisconnectPeer}
use Rattle.dm_base.specs.Built.{built_cer, built_dwr, built_dpr, built_cea, built_answer, built_error}
use Rattle.dm_base.specs.Commands.{base_command, is_base_command}
use Rattle.dm_machine.specs.declared.outputs.Command.{Command}
use Rattle.dm_machine.specs.declared.outputs.Command.TheVariants as command
use Rattle.dm_machine.specs.EachStep.{EachStepHolds}
use Rattle.dm_machine.specs.Node.{is_shaped}
use Rattle.dm_machine.specs.Moves as moves
use Rattle.dm_peer.specs.declared.actions.Action as declared_action
use Rattle.dm_peer.specs.declared.peer.Peer.{Peer}
use Rattle.dm_peer.specs.Events as told
use Rattle.dm_peer.specs.Events.{cause_in}
use Rattle.dm_peer.specs.Configs.{wins}
use Rattle.dm_peer.specs.Octets.{octets_of}
use Rattle.dm_peer.specs.Said.{Heard, header_heard}
use Rattle.dm_peer.specs.Sent.{header_of, fault_in, cer_answered, is_protocol_error, answer_by, refusal}
use Rattle.dm_peer.specs.Sent.{action_of, actions_of}
use Rattle.dm_machine.specs.Awaiting.{holds_cer}
use Rattle.dm_peer.specs.Acts.{Outcome, Moved, Refused, turned, input_of, outcome_of, steps, acts}
use Rattle.dm_two_peers.specs.Delivery.{sends_all}
use Rattle.dm_octet_peers.specs.Octets.{as_actions}
use Rattle.dm_octet_peers.specs.Carrying.{is_app, waits_well, is_waiting_well}
use Rattle.dm_octet_peers.proofs.Plain.{is_plain, are_plain, is_submit_input, PlainOutcome, outcome_plain}
use Rattle.dm_octet_peers.proofs.Replying.{turned_is}
use Rattle.dm_octet_peers.proofs.Bases.{base_sent}
use Rattle.dm_octet_peers.proofs.Stepping.{answers_none, asks_none, asks_none_step}
use Rattle.dm_octet_peers.proofs.Walking.{MayHear, is_submit_event, no_submit, is_base_heard, hears_base, walked}

abbrev no_app : List ℕ → Bool
no_app s = not (is_app s)

built_no_app : (m : Message) → is_base_command m.header.command ≡ true → no_app (octets_of m) ≡ true
built_no_app m h = ap (λ b. not b) (base_sent m h)

header_is_base : (h : Option Heard) → is_base_heard h ≡ true → is_base_command (header_of h).command ≡ true
header_is_base None e = cc
header_is_base (Some h) e = e

cea_base : (waits : Bool) (waiting : Option Header) (h : Option Heard) → waits_well waits waiting ≡ true →
    (is_base_heard h ≡ true) ⊎ (waits ≡ true) → is_base_command (cer_answered waiting h).command ≡ true
cea_base true (Some w) h e either = e
cea_base true None h e either = cc
cea_base false (Some w) h e either = cc
cea_base false None h e (inl is) = header_is_base h is
cea_base false None h e (inr is) = cc

refusal_no_app : (n : base.Node) (to : Header) (f : Fault) → is_base_command to.command ≡ true →
    no_app (octets_of (refusal n to f)) ≡ true
refusal_no_app n to f e = by (is_protocol_error f.code) (base_command to.command)
  where
    by : (protocol : Bool) (command : Option BaseCommand) →
        no_app (octets_of (if protocol then built_error n to f.code else answer_by command n to f)) ≡ true
    by true command = built_no_app (built_error n to f.code) e
    by false (Some CapabilitiesExchange) = built_no_app (built_cea n to f.code f.failed) e
    by false (Some DeviceWatchdog) = built_no_app (built_answer n to f.code f.failed) e
    by false (Some DisconnectPeer) = built_no_app (built_answer n to f.code f.failed) e
    by false None = built_no_app (built_answer n to f.code f.failed) e

abbrev NoApps : List declared_action.Action → Type 0
NoApps l = sends_all no_app (as_actions l) ≡ true

module _ (p : Peer) (e : told.PeerEvent) (h : Option Heard) (well : is_waiting_well p ≡ true) where
  abbrev waits : Bool
  waits = holds_cer p.standing.core.state

  heard_base : (is_base_heard h ≡ true) ⊎ (false ≡ true) → is_base_command (header_of h).command ≡ true
  heard_base (inl is) = header_is_base h is
  heard_base (inr is) = cc

  one_sent : (c : Command) (more : List declared_action.Action) → is_plain c ≡ true →
      (is_base_heard h ≡ true) ⊎ (answers_none waits c ≡ true) → NoApps more → NoApps (action_of p e h c ∷ more)
  one_sent (command.Connect c) more plain either rest = rest
  one_sent (command.Close c) more plain either rest = rest
  one_sent command.Up more plain either rest = rest
  one_sent (command.SendSubmit c) more plain either rest = cc
  one_sent (command.SendCer c) more plain either rest =
      and_from _ (sends_all no_app (as_actions more))
      (built_no_app (built_cer p.config.node p.standing.next) refl) rest
  one_sent (command.SendDwr c) more plain either rest =
      and_from _ (sends_all no_app (as_actions more))
      (built_no_app (built_dwr p.config.node p.standing.next) refl) rest
  one_sent (command.SendDpr c) more plain either rest =
      and_from _ (sends_all no_app (as_actions more))
      (built_no_app (built_dpr p.config.node p.standing.next (cause_in e)) refl) rest
  one_sent (command.SendCea c) more plain either rest =
      and_from _ (sends_all no_app (as_actions more))
      (built_no_app (built_cea p.config.node (cer_answered p.standing.waiting h) 2001 None)
      (cea_base waits p.standing.waiting h well either)) rest
  one_sent (command.SendRefusal c) more plain either rest =
      and_from _ (sends_all no_app (as_actions more))
      (refusal_no_app p.config.node (header_of h) (fault_in h) (heard_base either)) rest
  one_sent (command.SendDwa c) more plain either rest =
      and_from _ (sends_all no_app (as_actions more))
      (built_no_app (built_answer p.config.node (header_of h) 2001 None) (heard_base either)) rest
  one_sent (command.SendDpa c) more plain either rest =
      and_from _ (sends_all no_app (as_actions more))
      (built_no_app (built_answer p.config.node (header_of h) 2001 None) (heard_base either)) rest

  all_sent : (commands : List Command) → are_plain commands ≡ true →
      (is_base_heard h ≡ true) ⊎ (list_all (answers_none waits) commands ≡ true) → NoApps (actions_of p e h commands)
  all_sent [] plain either = refl
  all_sent (c ∷ commands) plain (inl is) =
      let parts = and_parts (is_plain c) (are_plain commands) plain in
      one_sent c (actions_of p e h commands) parts.0 (inl is) (all_sent commands parts.1 (inl is))
  all_sent (c ∷ commands) plain (inr none) =
      let parts = and_parts (is_plain c) (are_plain commands) plain in
      let answers = and_parts (answers_none waits c) (list_all (answers_none waits) commands) none in
      one_sent c (actions_of p e h commands) parts.0 (inr answers.0) (all_sent commands parts.1 (inr answers.1))

waits_after : (next before : Bool) (old : Option Header) (h : Option Heard) → waits_well before old ≡ true →
    (is_base_heard h ≡ true) ⊎ ((not next || before) ≡ true) →
    waits_well next (if next then (if before then old else header_heard h) else None) ≡ true
waits_after false before old h was either = refl
waits_after true true old h was either = was
waits_after true false old None was (inl is) = cc
waits_after true false old (Some x) was (inl is) = is
waits_after true false old h was (inr is) = cc

-- a step
abbrev pub SendsNone : Outcome → Type 0
SendsNone (Moved actions next) = NoApps actions
SendsNone (Refused f) = ⊤

abbrev pub KeepsWaiting : Outcome → Type 0
KeepsWaiting (Moved actions next) = is_waiting_well next ≡ true
KeepsWaiting (Refused f) = ⊤

asks_at : EachStepHolds → (p : Peer) (e : told.PeerEvent) (h : Option Heard) → is_shaped p.standing.core ≡ true →
    MayHear p h →
    (is_base_heard h ≡ true) ⊎ (asks_none p.standing.core
    (turned p.standing.core (input_of e h) (wins p.config)) ≡ true)
asks_at laws p e h shaped may =
    let n = p.standing.core in
    let i = input_of e h in
    elim (hears_base p e h may) [
      | inl is ↦ inl is
      | inr is ↦ inr (subst (λ o. asks_none n o ≡ true) (sym (turned_is n i (wins p.config)))
          (asks_none_step laws n shaped i (wins p.config) is))
    ]

step_sends : EachStepHolds → (p : Peer) (e : told.PeerEvent) (h : Option Heard) → is_shaped p.standing.core ≡ true →
    is_waiting_well p ≡ true → MayHear p h → is_submit_input (input_of e h) ≡ false → SendsNone (steps p e h)
step_sends laws p e h shaped well may other =
    let n = p.standing.core in
    let i = input_of e h in
    by_outcome (turned n i (wins p.config))
    (subst PlainOutcome (sym (turned_is n i (wins p.config))) (outcome_plain n i (wins p.config) other))
    (asks_at laws p e h shaped may)
  where
    by_outcome : (o : moves.NodeOutcome) → PlainOutcome o →
        (is_base_heard h ≡ true) ⊎ (asks_none p.standing.core o ≡ true) → SendsNone (outcome_of p e h o)
    by_outcome (moves.NodeMoved commands core) plain (inl is) = all_sent p e h well commands plain (inl is)
    by_outcome (moves.NodeMoved commands core) plain (inr is) =
        all_sent p e h well commands plain
        (inr (and_parts (list_all (answers_none (holds_cer p.standing.core.state)) commands)
        (not (holds_cer core.state) || holds_cer p.standing.core.state) is).0)
    by_outcome (moves.NodeRefused r) plain either = tt

step_waits : EachStepHolds → (p : Peer) (e : told.PeerEvent) (h : Option Heard) → is_shaped p.standing.core ≡ true →
    is_waiting_well p ≡ true → MayHear p h → KeepsWaiting (steps p e h)
step_waits laws p e h shaped well may =
    by_outcome (turned p.standing.core (input_of e h) (wins p.config)) (asks_at laws p e h shaped may)
  where
    by_outcome : (o : moves.NodeOutcome) → (is_base_heard h ≡ true) ⊎ (asks_none p.standing.core o ≡ true) →
        KeepsWaiting (outcome_of p e h o)
    by_outcome (moves.NodeMoved commands core) (inl is) =
        waits_after (holds_cer core.state) (holds_cer p.standing.core.state) p.standing.waiting h well (inl is)
    by_outcome (moves.NodeMoved commands core) (inr is) =
        waits_after (holds_cer core.state) (holds_cer p.standing.core.state) p.standing.waiting h well
        (inr (and_parts (list_all (answers_none (holds_cer p.standing.core.state)) commands)
        (not (holds_cer core.state) || holds_cer p.standing.core.state) is).1)
    by_outcome (moves.NodeRefused r) either = tt

pub acts_send_none : EachStepHolds → (p : Peer) (e : told.PeerEvent) → is_shaped p.standing.core ≡ true →
    is_waiting_well p ≡ true → is_submit_event e ≡ false → SendsNone (acts p e)
acts_send_none laws p e shaped well other =
    walked p SendsNone refl e (λ is f. tt) (λ h may. step_sends laws p e h shaped well may (no_submit e h other))

pub acts_wait_well : EachStepHolds → (p : Peer) (e : told.PeerEvent) → is_shaped p.standing.core ≡ true →
    is_waiting_well p ≡ true → KeepsWaiting (acts p e)
acts_wait_well laws p e shaped well =
    walked p KeepsWaiting well e (λ is f. tt) (λ h may. step_waits laws p e h shaped well may)
