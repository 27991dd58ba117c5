-- The reply of a peer over octets to what an event is to the state machine.
use Rattle.std.proofs.Common.{◌≡◌, ℕ, ◌+◌, ◌%◌, ◌^◌, Bool, true, false, ◌&&◌, ◌||◌, nat_lt, Option, Some, None, List, [], ◌∷◌, if◌then◌else◌, refl, sym, ap, subst, ◌∙◌, arith}
use Rattle.std.specs.Prelude.{is_none}
use Rattle.std.proofs.lemmas.Bool.{and_parts, and_from}
use Rattle.std.proofs.lemmas.Bool.Decides.{nat_tests}
use Rattle.dm_wire.specs.declared.message.Header.{Header}
use Rattle.dm_base.specs.Codes.{capabilities_exchange}
use Rattle.dm_base.specs.Built.{request_header, built_cer, built_cea}
use Rattle.dm_machine.specs.declared.outputs.Command.{Command}
use Rattle.dm_machine.specs.declared.outputs.Command.TheVariants as command
use Rattle.dm_machine.specs.declared.inputs.Input.{Input}
use Rattle.dm_machine.specs.Node.{Node, is_shaped}
use Rattle.dm_machine.specs.EachStep.{EachStepHolds}
use Rattle.dm_machine.specs.Shape.{KeepsShape, EachStepKeepsShape}
use Rattle.dm_machine.specs.Moves as moves
use Rattle.dm_machine.specs.Moves.{machine_outcome}
use Rattle.dm_peer.specs.declared.config.Config.{Config}
use Rattle.dm_peer.specs.declared.peer.Peer.{Peer}
use Rattle.dm_peer.specs.Events.{PeerEvent}
use Rattle.dm_peer.specs.Configs.{wins}
use Rattle.dm_peer.specs.Octets.{octets_of}
use Rattle.dm_peer.specs.Said.{Heard, header_heard}
use Rattle.dm_peer.specs.Sent as sent
use Rattle.dm_peer.specs.After.{request_in, next_after}
use Rattle.dm_peer.specs.After as after
use Rattle.dm_peer.specs.Acts.{turned, input_of, outcome_of, steps, standing_at}
use Rattle.dm_two_peers.specs.Links.{Side}
use Rattle.dm_two_peers.specs.Peers.{Send}
use Rattle.dm_machine.specs.Awaiting.{awaits_cea, holds_cer, number_after, waiting_after, cer_to_answer}
use Rattle.dm_two_peers.specs.Electing.{IsPeerOf, IsSaid, AreSaid, RepliesAs}
use Rattle.dm_octet_peers.specs.Octets.{as_action, as_actions, as_reply, octet_peers}
use Rattle.dm_base.specs.Fit.{is_number}
use Rattle.dm_octet_peers.specs.Talking.{config_at, is_standing, octet_talks}
use Rattle.dm_octet_peers.proofs.Stepping.{SendsAlike, outcome_alike}

-- the header that a CEA answers
to_answer : (waiting : Option Header) (h : Option Heard) (to : Header) →
    cer_to_answer waiting (header_heard h) ≡ Some to → sent.cer_answered waiting h ≡ to
to_answer None None to e = cc
to_answer None (Some x) to e = cc
to_answer (Some w) h to e = cc

said_at : (a b : Config) (s : Side) (p : Peer) (e : PeerEvent) (h : Option Heard) → p.config ≡ config_at a b s →
    (c : Command) → IsSaid (octet_talks a b) s p (header_heard h) c (as_action (sent.action_of p e h c))
said_at a b s p e h is (command.Connect c) = refl
said_at a b s p e h is (command.SendCer c) =
    ap (λ (k : Config). Send c (octets_of (built_cer k.node p.standing.next))) is
said_at a b s p e h is (command.SendCea c) =
    λ n answers.
    ap (λ (k : Config). Send c (octets_of (built_cea k.node (sent.cer_answered p.standing.waiting h) 2001 None)))
    is
    ∙ ap (λ to. Send c (octets_of (built_cea (config_at a b s).node to 2001 None)))
    (to_answer p.standing.waiting h (request_header capabilities_exchange n) answers)
said_at a b s p e h is (command.Close c) = refl
said_at a b s p e h is _ = tt

all_said : (a b : Config) (s : Side) (p : Peer) (e : PeerEvent) (h : Option Heard) → p.config ≡ config_at a b s →
    (commands : List Command) →
    AreSaid (octet_talks a b) s p (header_heard h) commands (as_actions (sent.actions_of p e h commands))
all_said a b s p e h is [] = tt
all_said a b s p e h is (c ∷ more) = (said_at a b s p e h is c, all_said a b s p e h is more)

-- the number after a step is one of four octets
wrapped : (n : ℕ) → nat_lt (n % 2 ^ 32) (2 ^ 32) ≡ true
wrapped n = grind (arith, nat_tests)

by_option : {X : Type 0} (F : Option X → Type 0) (o : Option X) → F None → ((x : X) → F (Some x)) → F o
by_option F None none some = none
by_option F (Some x) none some = some x

next_stands : (commands : List Command) (n : ℕ) → is_number n ≡ true →
    is_number (next_after (request_in commands) n) ≡ true
next_stands commands n h =
    by_option (λ r. is_number (next_after r n) ≡ true) (request_in commands) h (λ r. wrapped (n + 1))

waits_after : (holds before : Bool) (old heard : Option Header) →
    (holds || is_none (if holds then (if before then old else heard) else None)) ≡ true
waits_after true before old heard = refl
waits_after false before old heard = refl

-- where a peer stands after a step
pub stands_after : (p : Peer) (h : Option Heard) (commands : List Command) (core : Node) →
    is_standing p ≡ true → is_shaped core ≡ true →
    is_standing (standing_at p (after.standing_after p.standing h (request_in commands) core)) ≡ true
stands_after p h commands core was shaped =
    let rest = is_shaped p.standing.core && (holds_cer p.standing.core.state || is_none p.standing.waiting) in
    let waits = waits_after (holds_cer core.state) (holds_cer p.standing.core.state) p.standing.waiting
    (header_heard h) in
    let waiting = waiting_after p.standing.core.state (header_heard h) core.state p.standing.waiting in
    and_from (is_number (next_after (request_in commands) p.standing.next))
    (is_shaped core && (holds_cer core.state || is_none waiting))
    (next_stands commands p.standing.next (and_parts (is_number p.standing.next) rest was).0)
    (and_from (is_shaped core) (holds_cer core.state || is_none waiting) shaped
    waits)

replies_by : (a b : Config) (s : Side) (p : Peer) (e : PeerEvent) (h : Option Heard) →
    IsPeerOf (octet_talks a b) s p → (o : moves.NodeOutcome) → KeepsShape o → SendsAlike o →
    RepliesAs octet_peers (octet_talks a b) s p (header_heard h) o (as_reply (outcome_of p e h o))
replies_by a b s p e h is (moves.NodeRefused r) kept alike = refl
replies_by a b s p e h is (moves.NodeMoved commands core) kept alike =
    let sends = request_in commands in
    record {
      actions = as_actions (sent.actions_of p e h commands);
      peer = standing_at p (after.standing_after p.standing h sends core);
      replies = refl;
      node = refl;
      same = record { configured = is.configured; stands = stands_after p h commands core is.stands kept.0 };
      said = all_said a b s p e h is.configured commands;
      awaited =
          ap (λ c. number_after (awaits_cea core.state) c p.standing.next p.standing.awaited.cea) alike;
      waiting = refl;
    }

pub turned_is : (n : Node) (i : Input) (w : Bool) → turned n i w ≡ machine_outcome n i w
unfolding turned
turned_is n i w = refl

pub shaped_of : (p : Peer) → is_standing p ≡ true → is_shaped p.standing.core ≡ true
shaped_of p h =
    let waits = holds_cer p.standing.core.state || is_none p.standing.waiting in
    let rest = and_parts (is_number p.standing.next) (is_shaped p.standing.core && waits) h in
    (and_parts (is_shaped p.standing.core) waits rest.1).0

-- a step is the machine's
pub step_replies : EachStepHolds → EachStepKeepsShape →
    (a b : Config) (s : Side) (p : Peer) (e : PeerEvent) (h : Option Heard) → IsPeerOf (octet_talks a b) s p →
    RepliesAs octet_peers (octet_talks a b) s p (header_heard h)
    (machine_outcome p.standing.core (input_of e h) (wins (config_at a b s))) (as_reply (steps p e h))
step_replies laws shape a b s p e h is =
    let n = p.standing.core in
    let i = input_of e h in
    let shaped = shaped_of p is.stands in
    subst (λ (k : Config). RepliesAs octet_peers (octet_talks a b) s p (header_heard h) (machine_outcome n i (wins k))
    (as_reply (steps p e h))) is.configured
    (subst (λ o. RepliesAs octet_peers (octet_talks a b) s p (header_heard h) (machine_outcome n i (wins p.config))
    (as_reply (outcome_of p e h o))) (sym (turned_is n i (wins p.config)))
    (replies_by a b s p e h is (machine_outcome n i (wins p.config)) (shape n i (wins p.config) shaped)
    (outcome_alike laws n shaped i (wins p.config))))
