-- What each action comes from: a command, and what was heard for it.
use Rattle.std.proofs.Common.{◌≡◌, ◌⊎◌, inl, inr, ℕ, Bool, true, false, not, ◌||◌, Option, None, Some, List, [], ◌∷◌, if◌then◌else◌, refl, sym, subst, ap, ◌∙◌}
use Rattle.std.specs.List.{list_all}
use Rattle.std.proofs.lemmas.Bool.{and_parts, or_cases}
use Rattle.dm_wire.specs.declared.message.Header.{Header}
use Rattle.dm_base.specs.declared.node.Node as base_node
use Rattle.dm_base.specs.Built.{built_cer, built_dwr, built_dpr, built_cea, built_answer, built_error}
use Rattle.dm_base.specs.declared.base_command.BaseCommand.{BaseCommand}
use Rattle.dm_base.specs.declared.base_command.BaseCommand.TheVariants.{CapabilitiesExchange, DeviceWatchdog, DisconnectPeer}
use Rattle.dm_base.specs.Commands.{base_command, is_base_command}
use Rattle.dm_dict.specs.Faults.{Fault}
use Rattle.dm_machine.specs.declared.connection.Conn.{Conn}
use Rattle.dm_machine.specs.declared.inputs.Word.{Word}
use Rattle.dm_machine.specs.declared.inputs.Word.TheVariants.{Unreadable, Other}
use Rattle.dm_machine.specs.declared.outputs.Command.{Command}
use Rattle.dm_machine.specs.declared.outputs.Command.TheVariants as command
use Rattle.dm_machine.specs.Connection.{Concern, HeardOnIt, ConnOrder, SendsCer, SendsCea, SendsRefusal, SendsDwr, SendsDwa, SendsDpr, SendsDpa, SendsSubmit, Closes, if_ordered, order_to}
use Rattle.dm_machine.specs.Openings.{is_order, has_order}
use Rattle.dm_machine.specs.Ordered.{OrdersAreToldApart}
use Rattle.dm_machine.specs.Answering.{is_prompt, asks_for, has_its_request}
use Rattle.dm_peer.specs.declared.actions.Action.TheVariants.{Send, Close, Up}
use Rattle.dm_peer.specs.declared.peer.Peer.{Peer}
use Rattle.dm_peer.specs.Events.{PeerEvent, octets_in, cause_in}
use Rattle.dm_peer.specs.Octets.{octets_of}
use Rattle.dm_peer.specs.Said.{Heard}
use Rattle.dm_peer.specs.Sent.{action_of, answer_by, refusal, is_protocol_error, header_of, fault_in, cer_answered}
use Rattle.dm_history.specs.Carrying.{cer, dwr, dpr, cea, answer, error_answer, AreOwn}
use Rattle.dm_history.proofs.SameConn.{is_conn}

-- a command that sends on a connection is an order of it, and one that closes it closes it
pub sends_order : (p : Peer) (e : PeerEvent) (h : Option Heard) (a : Command) (c : Conn) (s : List ℕ) →
    action_of p e h a ≡ Send c s → (o : ConnOrder) × (order_to c a ≡ Some o)
sends_order p e h (command.SendCer d) c s is = (SendsCer, ap (λ b. if_ordered b SendsCer) (is_conn d c (cc is)))
sends_order p e h (command.SendCea d) c s is = (SendsCea, ap (λ b. if_ordered b SendsCea) (is_conn d c (cc is)))
sends_order p e h (command.SendRefusal d) c s is =
    (SendsRefusal, ap (λ b. if_ordered b SendsRefusal) (is_conn d c (cc is)))
sends_order p e h (command.SendDwr d) c s is = (SendsDwr, ap (λ b. if_ordered b SendsDwr) (is_conn d c (cc is)))
sends_order p e h (command.SendDwa d) c s is = (SendsDwa, ap (λ b. if_ordered b SendsDwa) (is_conn d c (cc is)))
sends_order p e h (command.SendDpr d) c s is = (SendsDpr, ap (λ b. if_ordered b SendsDpr) (is_conn d c (cc is)))
sends_order p e h (command.SendDpa d) c s is = (SendsDpa, ap (λ b. if_ordered b SendsDpa) (is_conn d c (cc is)))
sends_order p e h (command.SendSubmit d) c s is =
    (SendsSubmit, ap (λ b. if_ordered b SendsSubmit) (is_conn d c (cc is)))
sends_order p e h _ c s is = absurd (cc is)

pub closes_order : (p : Peer) (e : PeerEvent) (h : Option Heard) (a : Command) (c : Conn) →
    action_of p e h a ≡ Close c → order_to c a ≡ Some Closes
closes_order p e h (command.Close d) c is = ap (λ b. if_ordered b Closes) (is_conn d c (cc is))
closes_order p e h _ c is = absurd (cc is)

pub up_command : (p : Peer) (e : PeerEvent) (h : Option Heard) (a : Command) (s : List ℕ) →
    action_of p e h a ≡ Up s → (a ≡ command.Up) × (octets_in e ≡ s)
up_command p e h command.Up s is = (refl, cc is)
up_command p e h _ s is = absurd (cc is)

-- an order that answers what is heard, with what it answers
each_has : OrdersAreToldApart → (k : Concern) (o : ConnOrder) (orders : List ConnOrder) → list_all
    (has_its_request k) orders ≡ true →
    has_order o orders ≡ true → has_its_request k o ≡ true
each_has apart k o [] all has = absurd (cc has)
each_has apart k o (x ∷ rest) all has =
    let both = and_parts (has_its_request k x) (list_all (has_its_request k) rest) all in
    elim (or_cases (is_order o x) (has_order o rest) has) [
      | inl same ↦ ap (has_its_request k) (apart o x same) ∙ both.0
      | inr r ↦ each_has apart k o rest both.1 r
    ]

abbrev IsAskedFor : Concern → ConnOrder → Type 0
IsAskedFor k o = (w : Word) × (k ≡ HeardOnIt w) × (asks_for w o ≡ true)

prompted : (k : Concern) (o : ConnOrder) → has_its_request k o ≡ true → is_prompt o ≡ true → IsAskedFor k o
prompted (HeardOnIt w) o has prompt = (w, refl, sym (ap (λ b. not b || asks_for w o) prompt) ∙ has)
prompted _ o has prompt = absurd (cc (prompt, has))

pub asked_for : OrdersAreToldApart → (k : Concern) (o : ConnOrder) (orders : List ConnOrder) → list_all
    (has_its_request k) orders ≡ true →
    is_prompt o ≡ true → has_order o orders ≡ true → IsAskedFor k o
asked_for apart k o orders all prompt has = prompted k o (each_has apart k o orders all has) prompt

pub asks_base : (w : Word) (o : ConnOrder) → asks_for w o ≡ true → Other ≡ w → ⊥
asks_base w o asks same = cc (ap (λ v. asks_for v o) same ∙ asks)

pub asks_readable : (w : Word) (o : ConnOrder) → asks_for w o ≡ true → Unreadable ≡ w → ⊥
asks_readable w o asks same = cc (ap (λ v. asks_for v o) same ∙ asks)

-- what a command sends
answer_own : (n : base_node.Node) (to : Header) (f : Fault) → is_base_command to.command ≡ true →
    AreOwn n (octets_of (built_answer n to f.code f.failed))
answer_own n to f base =
    record { message = built_answer n to f.code f.failed; own = answer to f.code f.failed; base = base; spelled = refl }

refused_own : (n : base_node.Node) (to : Header) (f : Fault) → is_base_command to.command ≡ true → (protocol : Bool)
    (o : Option BaseCommand) → AreOwn n (octets_of (if protocol then built_error n to f.code else answer_by o n to f))
refused_own n to f base true o =
    record { message = built_error n to f.code; own = error_answer to f.code; base = base; spelled = refl }
refused_own n to f base false (Some CapabilitiesExchange) =
    record { message = built_cea n to f.code f.failed; own = cea to f.code f.failed; base = base; spelled = refl }
refused_own n to f base false (Some DeviceWatchdog) = answer_own n to f base
refused_own n to f base false (Some DisconnectPeer) = answer_own n to f base
refused_own n to f base false None = answer_own n to f base

own_as : (n : base_node.Node) (s t : List ℕ) → AreOwn n t → t ≡ s → AreOwn n s
own_as n s t own is = subst (AreOwn n) is own

-- the header that a command answers is that of a base message
abbrev pub AnswersBase : Peer → Option Heard → Conn → Command → Type 0
AnswersBase p h c a =
    (order_to c a ≡ Some SendsCea → is_base_command (cer_answered p.standing.waiting h).command ≡ true)
    × ((o : ConnOrder) → order_to c a ≡ Some o → is_prompt o ≡ true → is_base_command (header_of h).command ≡ true)

pub own_sent : (p : Peer) (e : PeerEvent) (h : Option Heard) (c : Conn) (s : List ℕ) (a : Command) →
    action_of p e h a ≡ Send c s → AnswersBase p h c a →
    AreOwn p.config.node s ⊎ ((octets_in e ≡ s) × (order_to c a ≡ Some SendsSubmit))
own_sent p e h c s (command.SendCer d) is base =
    let m = built_cer p.config.node p.standing.next in
    inl (own_as p.config.node s (octets_of m)
    (record { message = m; own = cer p.standing.next; base = refl; spelled = refl }) (cc is))
own_sent p e h c s (command.SendCea d) is base =
    let to = cer_answered p.standing.waiting h in
    let m = built_cea p.config.node to 2001 None in
    let b = base.0 (ap (λ t. if_ordered t SendsCea) (is_conn d c (cc is))) in
    inl (own_as p.config.node s (octets_of m)
    (record { message = m; own = cea to 2001 None; base = b; spelled = refl }) (cc is))
own_sent p e h c s (command.SendRefusal d) is base =
    let f = fault_in h in
    let to = header_of h in
    let b = base.1 SendsRefusal (ap (λ t. if_ordered t SendsRefusal) (is_conn d c (cc is))) refl in
    inl (own_as p.config.node s (octets_of (refusal p.config.node to f))
    (refused_own p.config.node to f b (is_protocol_error f.code) (base_command to.command)) (cc is))
own_sent p e h c s (command.SendDwr d) is base =
    let m = built_dwr p.config.node p.standing.next in
    inl (own_as p.config.node s (octets_of m)
    (record { message = m; own = dwr p.standing.next; base = refl; spelled = refl }) (cc is))
own_sent p e h c s (command.SendDwa d) is base =
    let to = header_of h in
    let m = built_answer p.config.node to 2001 None in
    let b = base.1 SendsDwa (ap (λ t. if_ordered t SendsDwa) (is_conn d c (cc is))) refl in
    inl (own_as p.config.node s (octets_of m)
    (record { message = m; own = answer to 2001 None; base = b; spelled = refl }) (cc is))
own_sent p e h c s (command.SendDpr d) is base =
    let m = built_dpr p.config.node p.standing.next (cause_in e) in
    inl (own_as p.config.node s (octets_of m)
    (record { message = m; own = dpr p.standing.next (cause_in e); base = refl; spelled = refl }) (cc is))
own_sent p e h c s (command.SendDpa d) is base =
    let to = header_of h in
    let m = built_answer p.config.node to 2001 None in
    let b = base.1 SendsDpa (ap (λ t. if_ordered t SendsDpa) (is_conn d c (cc is))) refl in
    inl (own_as p.config.node s (octets_of m)
    (record { message = m; own = answer to 2001 None; base = b; spelled = refl }) (cc is))
own_sent p e h c s (command.SendSubmit d) is base =
    inr (cc is, ap (λ t. if_ordered t SendsSubmit) (is_conn d c (cc is)))
own_sent p e h c s _ is base = absurd (cc is)
