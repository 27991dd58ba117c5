-- Every message that a peer over octets sends is a frame.
use Rattle.std.proofs.Common.{◌≡◌, ◌<◌, ◌^◌, ℕ, nat_eq, Bool, true, false, Option, None, Some, List, [], ◌∷◌, if◌then◌else◌, refl, sym, subst, ◌⊎◌, inl, inr, arith}
use Rattle.std.specs.Prelude.{⊤}
use Rattle.std.proofs.lemmas.Bool.{and_parts}
use Rattle.dm_framer.specs.Frames.{IsFrame}
use Rattle.dm_wire.specs.declared.avp.Avp.{Avp}
use Rattle.dm_wire.specs.declared.message.Header.{Header}
use Rattle.dm_wire.specs.declared.message.Message.{Message}
use Rattle.dm_wire.specs.Framing.{SpelledIsFramed, CanonicalIsFramed}
use Rattle.dm_wire.specs.Limits.{HeaderFits}
use Rattle.dm_wire.specs.Whole.{message_in, MessageInSpells}
use Rattle.dm_dict.specs.Faults.{Fault}
use Rattle.dm_base.specs.declared.node.Node.{Node}
use Rattle.dm_base.specs.declared.kind.Cause.{Cause}
use Rattle.dm_base.specs.Commands.{base_command}
use Rattle.dm_base.specs.declared.base_command.BaseCommand.{BaseCommand}
use Rattle.dm_base.specs.declared.base_command.BaseCommand.TheVariants.{CapabilitiesExchange, DeviceWatchdog, DisconnectPeer}
use Rattle.dm_base.specs.Spelled.{HasSpelling}
use Rattle.dm_base.specs.Laws.{CerIsSpelled, CeaIsSpelled, DwrIsSpelled, DprIsSpelled, AnswerIsSpelled, ErrorIsSpelled}
use Rattle.dm_base.specs.Codes.{device_watchdog}
use Rattle.dm_base.specs.Built.{built_cer, built_dwr, built_dpr, built_cea, built_answer, built_error}
use Rattle.dm_machine.specs.declared.outputs.Command.{Command}
use Rattle.dm_machine.specs.declared.outputs.Command.TheVariants as command
use Rattle.dm_machine.specs.Moves as moves
use Rattle.dm_machine.specs.Moves.{is_open}
use Rattle.dm_peer.specs.declared.actions.Action as declared_action
use Rattle.dm_peer.specs.declared.fault.PeerFault.TheVariants.{NotOpen, BadSubmit}
use Rattle.dm_peer.specs.declared.peer.Peer.{Peer}
use Rattle.dm_peer.specs.Events as told
use Rattle.dm_peer.specs.Events.{octets_in, cause_in}
use Rattle.dm_peer.specs.Configs.{wins}
use Rattle.dm_peer.specs.Octets.{octets_of}
use Rattle.dm_peer.specs.Said.{Heard}
use Rattle.dm_peer.specs.Sent.{no_header, header_of, fault_in, cer_answered, is_protocol_error, answer_by, refusal}
use Rattle.dm_peer.specs.Sent.{action_of, actions_of}
use Rattle.dm_peer.specs.Acts.{Outcome, Moved, Refused, turned, input_of, outcome_of, steps, can_submit, acts}
use Rattle.dm_wire.specs.Octets.{AreOctets}
use Rattle.dm_octet_peers.specs.Frames.{submitted_in, SendFrames, OctetsAreFrames}
use Rattle.dm_octet_peers.specs.Octets.{as_actions}
use Rattle.dm_octet_peers.proofs.Plain.{is_plain, are_plain, is_submit_input, PlainOutcome, outcome_plain}
use Rattle.dm_octet_peers.proofs.Replying.{turned_is}
use Rattle.dm_octet_peers.proofs.Walking.{no_submit, walked}

-- the laws that it rests on
pub record FrameLaws : Type 0 where
  pub cer : CerIsSpelled
  pub cea : CeaIsSpelled
  pub dwr : DwrIsSpelled
  pub dpr : DprIsSpelled
  pub answer : AnswerIsSpelled
  pub error : ErrorIsSpelled
  pub within : MessageInSpells
  pub spelled : SpelledIsFramed
  pub canonical : CanonicalIsFramed

abbrev IsSent : List ℕ → Type 0
IsSent s = IsFrame 16777212 s

-- a built message is one whatever its header: its AVPs stand in one that is spelled
no_header_fits : HeaderFits no_header
no_header_fits = record { command = omega arith; application = omega arith; hop = omega arith; end = omega arith }

-- an answer to a watchdog has an AVP more
abbrev watchdog_header : Header
watchdog_header = record no_header { command = device_watchdog }

watchdog_fits : HeaderFits watchdog_header
watchdog_fits = record { command = omega arith; application = omega arith; hop = omega arith; end = omega arith }

built_framed : FrameLaws → (m k : Message) → m.avps ≡ k.avps → HasSpelling k → IsSent (octets_of m)
unfolding octets_of
built_framed laws m k same has = laws.canonical m k has.octets has.spelled same

none_fits : 0 < 256 ^ 4
none_fits = omega arith

cer_framed : FrameLaws → (n : Node) (id : ℕ) → IsSent (octets_of (built_cer n id))
cer_framed laws n id = built_framed laws (built_cer n id) (built_cer n 0) refl (laws.cer n 0 none_fits)

dwr_framed : FrameLaws → (n : Node) (id : ℕ) → IsSent (octets_of (built_dwr n id))
dwr_framed laws n id = built_framed laws (built_dwr n id) (built_dwr n 0) refl (laws.dwr n 0 none_fits)

dpr_framed : FrameLaws → (n : Node) (id : ℕ) (cause : Cause) → IsSent (octets_of (built_dpr n id cause))
dpr_framed laws n id cause =
    built_framed laws (built_dpr n id cause) (built_dpr n 0 cause) refl (laws.dpr n 0 cause none_fits)

cea_framed : FrameLaws → (n : Node) (to : Header) (code : ℕ) (failed : Option Avp) →
    IsSent (octets_of (built_cea n to code failed))
cea_framed laws n to code failed =
    built_framed laws (built_cea n to code failed) (built_cea n no_header code failed) refl
    (laws.cea n no_header code failed no_header_fits)

answer_framed : FrameLaws → (n : Node) (to : Header) (code : ℕ) (failed : Option Avp) →
    IsSent (octets_of (built_answer n to code failed))
answer_framed laws n to code failed = by (nat_eq to.command device_watchdog) refl where
  by : (b : Bool) → nat_eq to.command device_watchdog ≡ b → IsSent (octets_of (built_answer n to code failed))
  by true e =
      built_framed laws (built_answer n to code failed) (built_answer n watchdog_header code failed) (rw e refl)
      (laws.answer n watchdog_header code failed watchdog_fits)
  by false e =
      built_framed laws (built_answer n to code failed) (built_answer n no_header code failed) (rw e refl)
      (laws.answer n no_header code failed no_header_fits)

error_framed : FrameLaws → (n : Node) (to : Header) (code : ℕ) → IsSent (octets_of (built_error n to code))
error_framed laws n to code =
    built_framed laws (built_error n to code) (built_error n no_header code) refl
    (laws.error n no_header code no_header_fits)

refusal_framed : FrameLaws → (n : Node) (to : Header) (f : Fault) → IsSent (octets_of (refusal n to f))
refusal_framed laws n to f = by (is_protocol_error f.code) (base_command to.command)
  where
    by : (protocol : Bool) (command : Option BaseCommand) →
        IsSent (octets_of (if protocol then built_error n to f.code else answer_by command n to f))
    by true command = error_framed laws n to f.code
    by false (Some CapabilitiesExchange) = cea_framed laws n to f.code f.failed
    by false (Some DeviceWatchdog) = answer_framed laws n to f.code f.failed
    by false (Some DisconnectPeer) = answer_framed laws n to f.code f.failed
    by false None = answer_framed laws n to f.code f.failed

-- the actions of commands: none is a message of the user, or that is a frame
abbrev Framed : List declared_action.Action → Type 0
Framed l = SendFrames (as_actions l)

one_framed : FrameLaws → (p : Peer) (e : told.PeerEvent) (h : Option Heard) (c : Command)
    (more : List declared_action.Action) → (is_plain c ≡ true) ⊎ IsSent (octets_in e) → Framed more →
    Framed (action_of p e h c ∷ more)
one_framed laws p e h (command.Connect c) more own rest = rest
one_framed laws p e h (command.Close c) more own rest = rest
one_framed laws p e h command.Up more own rest = rest
one_framed laws p e h (command.SendSubmit c) more (inl plain) rest = cc
one_framed laws p e h (command.SendSubmit c) more (inr sent) rest = (sent, rest)
one_framed laws p e h (command.SendCer c) more own rest = (cer_framed laws p.config.node p.standing.next, rest)
one_framed laws p e h (command.SendCea c) more own rest =
    (cea_framed laws p.config.node (cer_answered p.standing.waiting h) 2001 None, rest)
one_framed laws p e h (command.SendRefusal c) more own rest =
    (refusal_framed laws p.config.node (header_of h) (fault_in h), rest)
one_framed laws p e h (command.SendDwr c) more own rest = (dwr_framed laws p.config.node p.standing.next, rest)
one_framed laws p e h (command.SendDwa c) more own rest =
    (answer_framed laws p.config.node (header_of h) 2001 None, rest)
one_framed laws p e h (command.SendDpr c) more own rest =
    (dpr_framed laws p.config.node p.standing.next (cause_in e), rest)
one_framed laws p e h (command.SendDpa c) more own rest =
    (answer_framed laws p.config.node (header_of h) 2001 None, rest)

all_framed : FrameLaws → (p : Peer) (e : told.PeerEvent) (h : Option Heard) (commands : List Command) →
    (are_plain commands ≡ true) ⊎ IsSent (octets_in e) → Framed (actions_of p e h commands)
all_framed laws p e h [] own = tt
all_framed laws p e h (c ∷ commands) (inl plain) =
    let parts = and_parts (is_plain c) (are_plain commands) plain in
    one_framed laws p e h c (actions_of p e h commands) (inl parts.0)
    (all_framed laws p e h commands (inl parts.1))
all_framed laws p e h (c ∷ commands) (inr sent) =
    one_framed laws p e h c (actions_of p e h commands) (inr sent) (all_framed laws p e h commands (inr sent))

abbrev FramedOutcome : Outcome → Type 0
FramedOutcome (Moved actions next) = Framed actions
FramedOutcome (Refused f) = ⊤

plain_step : FrameLaws → (p : Peer) (e : told.PeerEvent) (h : Option Heard) →
    is_submit_input (input_of e h) ≡ false → FramedOutcome (steps p e h)
plain_step laws p e h other =
    let i = input_of e h in
    let n = p.standing.core in
    let w = wins p.config in
    by_outcome (turned n i w) (subst PlainOutcome (sym (turned_is n i w)) (outcome_plain n i w other))
  where
    by_outcome : (o : moves.NodeOutcome) → PlainOutcome o → FramedOutcome (outcome_of p e h o)
    by_outcome (moves.NodeMoved commands core) is = all_framed laws p e h commands (inl is)
    by_outcome (moves.NodeRefused r) is = tt

submit_step : FrameLaws → (p : Peer) (s : List ℕ) → IsSent s → FramedOutcome (steps p (told.Submit s) None)
submit_step laws p s sent = by_outcome (turned p.standing.core (input_of (told.Submit s) None) (wins p.config))
  where
    by_outcome : (o : moves.NodeOutcome) → FramedOutcome (outcome_of p (told.Submit s) None o)
    by_outcome (moves.NodeMoved commands core) = all_framed laws p (told.Submit s) None commands (inr sent)
    by_outcome (moves.NodeRefused r) = tt

-- octets that can be submitted are a frame
can_framed : FrameLaws → (s : List ℕ) → AreOctets s → (o : Option Message) → message_in s ≡ o →
    can_submit o ≡ true → IsSent s
can_framed laws s octets None is can = cc
can_framed laws s octets (Some m) is can = laws.spelled m s ((laws.within s m octets).0 is)

submits : FrameLaws → (p : Peer) (s : List ℕ) (is_open_now can : Bool) → (can ≡ true → IsSent s) →
    FramedOutcome
    (if is_open_now then (if can then steps p (told.Submit s) None else Refused BadSubmit) else Refused NotOpen)
submits laws p s false can sent = tt
submits laws p s true false sent = tt
submits laws p s true true sent = submit_step laws p s (sent refl)

acts_framed : FrameLaws → (p : Peer) (e : told.PeerEvent) → AreOctets (submitted_in e) → FramedOutcome (acts p e)
acts_framed laws p (told.Submit s) octets =
    submits laws p s (is_open p.standing.core.state) (can_submit (message_in s))
    (can_framed laws s octets (message_in s) refl)
acts_framed laws p e octets =
    walked p FramedOutcome tt e (λ is f. tt) (λ h may. plain_step laws p e h (no_submit e h refl))

pub octets_are_frames : FrameLaws → OctetsAreFrames
octets_are_frames laws p next e actions octets is = subst FramedOutcome is (acts_framed laws p e octets)
