-- What a command sends spells a message, where the numbers fit: what a node builds, and what is submitted.
use Rattle.std.proofs.Common.{◌≡◌, Bool, true, false, Option, None, Some, IfSome, List, [], ◌∷◌, All, if◌then◌else◌, arith}
use Rattle.std.specs.List.{list_all}
use Rattle.std.proofs.lemmas.Bool.{and_parts}
use Rattle.std.proofs.lemmas.List.Elements.{All-nil, All-cons}
use Rattle.dm_wire.specs.declared.message.Header.{Header}
use Rattle.dm_wire.specs.declared.message.Message.{Message}
use Rattle.dm_wire.specs.Limits.{HeaderFits}
use Rattle.dm_wire.specs.RoundTrip.{CanonicalSpells}
use Rattle.dm_wire.specs.Whole.{MessageInSpells}
use Rattle.dm_dict.specs.Faults.{Fault}
use Rattle.dm_base.specs.declared.node.Node.{Node}
use Rattle.dm_base.specs.Commands.{base_command}
use Rattle.dm_base.specs.declared.base_command.BaseCommand.{BaseCommand}
use Rattle.dm_base.specs.declared.base_command.BaseCommand.TheVariants.{CapabilitiesExchange, DeviceWatchdog, DisconnectPeer}
use Rattle.dm_base.specs.Spelled.{HasSpelling}
use Rattle.dm_base.specs.Laws.{CerIsSpelled, CeaIsSpelled, DwrIsSpelled, DprIsSpelled, AnswerIsSpelled, ErrorIsSpelled}
use Rattle.dm_base.specs.Built.{built_cer, built_dwr, built_dpr, built_cea, built_answer, built_error}
use Rattle.dm_machine.specs.declared.outputs.Command.{Command}
use Rattle.dm_machine.specs.declared.outputs.Command.TheVariants as command
use Rattle.dm_machine.specs.EachStep.{EachStepHolds}
use Rattle.dm_peer.specs.declared.peer.Peer.{Peer}
use Rattle.dm_peer.specs.Events.{PeerEvent, octets_in, cause_in}
use Rattle.dm_peer.specs.Octets.{octets_of}
use Rattle.dm_peer.specs.Said.{Heard}
use Rattle.dm_peer.specs.Sent.{no_header, header_of, fault_in, cer_answered, is_protocol_error, answer_by, refusal}
use Rattle.dm_peer.specs.Sent.{action_of, actions_of}
use Rattle.dm_peer.specs.Steps.{is_submit, has_what_it_says}
use Rattle.dm_peer.specs.Spelled.{IsSpelling, SendsSpelling, IsFitting}

-- the laws that it rests on: of the state machine's steps, of octets, and of what a node builds
pub record SpellingLaws : Type 0 where
  pub few : EachStepHolds
  pub within : MessageInSpells
  pub canonical : CanonicalSpells
  pub cer : CerIsSpelled
  pub cea : CeaIsSpelled
  pub dwr : DwrIsSpelled
  pub dpr : DprIsSpelled
  pub answer : AnswerIsSpelled
  pub error : ErrorIsSpelled

-- what an event brings to a fitting peer: a header that fits, and a spelling where it is a Submit
pub record IsGiven (p : Peer) (e : PeerEvent) (h : Option Heard) : Type 0 where
  pub kept : IsFitting p
  pub header : IfSome h (λ said. HeaderFits said.header)
  pub submitted : is_submit e ≡ true → IsSpelling (octets_in e)

built : SpellingLaws → (m : Message) → HasSpelling m → IsSpelling (octets_of m)
unfolding octets_of
built laws m has = (m, laws.canonical m has.octets has.spelled)

no_header_fits : HeaderFits no_header
no_header_fits = record { command = omega arith; application = omega arith; hop = omega arith; end = omega arith }

header_fits : (h : Option Heard) → IfSome h (λ said. HeaderFits said.header) → HeaderFits (header_of h)
header_fits None fit = no_header_fits
header_fits (Some h) fit = fit

cer_fits : (waiting : Option Header) (h : Option Heard) → IfSome waiting HeaderFits → HeaderFits (header_of h) →
    HeaderFits (cer_answered waiting h)
cer_fits None h kept fit = fit
cer_fits (Some to) h kept fit = kept

refusal_spelled : SpellingLaws → (n : Node) (to : Header) (f : Fault) → HeaderFits to →
    IsSpelling (octets_of (refusal n to f))
refusal_spelled laws n to f fit = by (is_protocol_error f.code) (base_command to.command)
  where
    answer : IsSpelling (octets_of (built_answer n to f.code f.failed))
    answer = built laws (built_answer n to f.code f.failed) (laws.answer n to f.code f.failed fit)

    by : (protocol : Bool) (command : Option BaseCommand) →
        IsSpelling (octets_of (if protocol then built_error n to f.code else answer_by command n to f))
    by true command = built laws (built_error n to f.code) (laws.error n to f.code fit)
    by false (Some CapabilitiesExchange) = built laws (built_cea n to f.code f.failed) (laws.cea n to f.code f.failed fit)
    by false (Some DeviceWatchdog) = answer
    by false (Some DisconnectPeer) = answer
    by false None = answer

-- one action, and all of them
one_spelled : SpellingLaws → (p : Peer) (e : PeerEvent) (h : Option Heard) → IsGiven p e h →
    (c : Command) → has_what_it_says p e h c ≡ true → SendsSpelling (action_of p e h c)
one_spelled laws p e h given (command.Connect c) says = tt
one_spelled laws p e h given (command.Close c) says = tt
one_spelled laws p e h given command.Up says = tt
one_spelled laws p e h given (command.SendSubmit c) says = given.submitted says
one_spelled laws p e h given (command.SendCer c) says =
    let n = p.config.node in
    let id = p.standing.next in
    built laws (built_cer n id) (laws.cer n id given.kept.next)
one_spelled laws p e h given (command.SendCea c) says =
    let n = p.config.node in
    let to = cer_answered p.standing.waiting h in
    built laws (built_cea n to 2001 None)
    (laws.cea n to 2001 None (cer_fits p.standing.waiting h given.kept.waiting (header_fits h given.header)))
one_spelled laws p e h given (command.SendRefusal c) says =
    refusal_spelled laws p.config.node (header_of h) (fault_in h) (header_fits h given.header)
one_spelled laws p e h given (command.SendDwr c) says =
    let n = p.config.node in
    let id = p.standing.next in
    built laws (built_dwr n id) (laws.dwr n id given.kept.next)
one_spelled laws p e h given (command.SendDwa c) says =
    let n = p.config.node in
    let to = header_of h in
    built laws (built_answer n to 2001 None) (laws.answer n to 2001 None (header_fits h given.header))
one_spelled laws p e h given (command.SendDpr c) says =
    let n = p.config.node in
    let id = p.standing.next in
    built laws (built_dpr n id (cause_in e)) (laws.dpr n id (cause_in e) given.kept.next)
one_spelled laws p e h given (command.SendDpa c) says =
    let n = p.config.node in
    let to = header_of h in
    built laws (built_answer n to 2001 None) (laws.answer n to 2001 None (header_fits h given.header))

pub all_spelled : SpellingLaws → (p : Peer) (e : PeerEvent) (h : Option Heard) → IsGiven p e h →
    (l : List Command) → list_all (has_what_it_says p e h) l ≡ true → All SendsSpelling (actions_of p e h l)
all_spelled laws p e h given [] says = All-nil SendsSpelling
all_spelled laws p e h given (c ∷ l) says =
    let both = and_parts (has_what_it_says p e h c) (list_all (has_what_it_says p e h) l) says in
    All-cons SendsSpelling (action_of p e h c) (actions_of p e h l) (one_spelled laws p e h given c both.0)
    (all_spelled laws p e h given l both.1)
