-- What a command says is there: an answer's request, a refusal's fault, the cause of a disconnect, octets handed in.
use Rattle.std.proofs.Common.{◌≡◌, ℕ, Bool, true, false, not, ◌&&◌, ◌||◌, Option, None, Some, is_some, List, [], ◌∷◌, Result, Ok, Err, nat_le, if◌then◌else◌, refl, sym, ◌∙◌}
use Rattle.std.specs.List.{list_all}
use Rattle.std.proofs.lemmas.Bool.{and_parts, and_from}
use Rattle.dm_wire.specs.declared.message.Header.{Header}
use Rattle.dm_wire.specs.declared.message.Message.{Message}
use Rattle.dm_dict.specs.Faults.{Fault}
use Rattle.dm_base.specs.declared.kind.Kind.{Kind}
use Rattle.dm_base.specs.declared.kind.Kind.TheVariants as kinds
use Rattle.dm_machine.specs.declared.inputs.Word.TheVariants.{Cea, CeaFailed}
use Rattle.dm_machine.specs.declared.outputs.Command.{Command}
use Rattle.dm_machine.specs.declared.outputs.Command.TheVariants as command
use Rattle.dm_machine.specs.Awaiting.{holds_cer}
use Rattle.dm_peer.specs.declared.config.Config.{Config}
use Rattle.dm_peer.specs.declared.peer.Peer.{Peer}
use Rattle.dm_peer.specs.Events.{PeerEvent, Start, Stop, Timeout, Tick, Ack, Nack, Arrived, Gone, Submit}
use Rattle.dm_peer.specs.Said.{Heard, word_heard, heard_caps, word_of_bad, refusal_of_caps, is_other_sender, said, kind_under}
use Rattle.dm_peer.specs.Acts.{input_of}
use Rattle.dm_peer.specs.Steps.{has_heard_fault, is_arrival, is_stop, is_submit, has_what_it_says}
use Rattle.dm_peer.specs.Cases.{Hears, unread, no_message, message, submits_it, bare}
use Rattle.dm_peer.proofs.Few.{word_of, is_read, is_refused_word, is_stop_input, is_submit_input, is_asked}

-- a message that is refused has its fault
abbrev pub fits : Option Heard → Bool
fits h = not (is_refused_word (word_heard h)) || has_heard_fault h

-- what is heard has it
by_bad : (b : Bool) → (not b || true) ≡ true
by_bad true = refl
by_bad false = refl

by_code : (h : Header) (other b : Bool) →
    fits (Some (record { header = h; word = if other then CeaFailed else (if b then Cea else CeaFailed); failure = None }))
    ≡ true
by_code h true b = refl
by_code h false true = refl
by_code h false false = refl

by_caps : (h : Header) (code : Option ℕ) → fits (Some (heard_caps h code)) ≡ true
by_caps h None = refl
by_caps h (Some code) = refl

said_fits : (c : Config) (m : Message) (r : Result Kind Fault) → fits (Some (said c m r)) ≡ true
said_fits c m (Ok (kinds.Cer caps)) = by_caps m.header (refusal_of_caps c caps)
said_fits c m (Ok (kinds.Cea code)) = by_code m.header (is_other_sender c m) (nat_le 2000 code && nat_le code 2999)
said_fits c m (Ok kinds.Dwr) = refl
said_fits c m (Ok kinds.Dwa) = refl
said_fits c m (Ok (kinds.Dpr cause)) = refl
said_fits c m (Ok kinds.Dpa) = refl
said_fits c m (Ok kinds.Other) = refl
said_fits c m (Err f) = by_bad (is_refused_word (word_of_bad m.header))

pub heard_fits : (p : Peer) (e : PeerEvent) (h : Option Heard) → Hears p e h → fits h ≡ true
heard_fits p e h (message c s m read is kept) = said_fits p.config m (kind_under p.config m)
heard_fits p e h (unread c s deaf) = refl
heard_fits p e h (no_message c s read none) = refl
heard_fits p e h (submits_it s opened can) = refl
heard_fits p e h (bare e' is) = refl

-- where a message is read, it came and was heard
is_message : (e : PeerEvent) (h : Option Heard) → is_read (word_of (input_of e h)) ≡ true →
    (is_arrival e ≡ true) × (is_some h ≡ true)
is_message (Arrived c s) None is = absurd (cc is)
is_message (Arrived c s) (Some h) is = (refl, refl)
is_message (Start c) h is = absurd (cc is)
is_message (Stop cause) h is = absurd (cc is)
is_message Timeout h is = absurd (cc is)
is_message Tick h is = absurd (cc is)
is_message (Ack c) h is = absurd (cc is)
is_message (Nack c) h is = absurd (cc is)
is_message (Gone c) h is = absurd (cc is)
is_message (Submit s) h is = absurd (cc is)

-- and where it is refused, it has its fault
has_its_fault : (h : Option Heard) (b : Bool) → (not b || has_heard_fault h) ≡ true → b ≡ true → has_heard_fault h ≡ true
has_its_fault h true fit is = fit
has_its_fault h false fit is = absurd (cc is)

is_refusal : (e : PeerEvent) (h : Option Heard) → fits h ≡ true → is_refused_word (word_of (input_of e h)) ≡ true →
    has_heard_fault h ≡ true
is_refusal (Arrived c s) h fit is = has_its_fault h (is_refused_word (word_heard h)) fit is
is_refusal (Start c) h fit is = absurd (cc is)
is_refusal (Stop cause) h fit is = absurd (cc is)
is_refusal Timeout h fit is = absurd (cc is)
is_refusal Tick h fit is = absurd (cc is)
is_refusal (Ack c) h fit is = absurd (cc is)
is_refusal (Nack c) h fit is = absurd (cc is)
is_refusal (Gone c) h fit is = absurd (cc is)
is_refusal (Submit s) h fit is = absurd (cc is)

is_stopped : (e : PeerEvent) (h : Option Heard) → is_stop_input (input_of e h) ≡ is_stop e
is_stopped (Arrived c s) h = refl
is_stopped (Start c) h = refl
is_stopped (Stop cause) h = refl
is_stopped Timeout h = refl
is_stopped Tick h = refl
is_stopped (Ack c) h = refl
is_stopped (Nack c) h = refl
is_stopped (Gone c) h = refl
is_stopped (Submit s) h = refl

is_submitted : (e : PeerEvent) (h : Option Heard) → is_submit_input (input_of e h) ≡ is_submit e
is_submitted (Arrived c s) h = refl
is_submitted (Start c) h = refl
is_submitted (Stop cause) h = refl
is_submitted Timeout h = refl
is_submitted Tick h = refl
is_submitted (Ack c) h = refl
is_submitted (Nack c) h = refl
is_submitted (Gone c) h = refl
is_submitted (Submit s) h = refl

either_there : (holds waits heard : Bool) → waits ≡ holds → (b : Bool) → (b ≡ true → heard ≡ true) →
    (holds || b) ≡ true → (waits || heard) ≡ true
either_there true waits heard is b so e = rw is refl
either_there false waits heard is b so e = rw (is, so e) refl

there : (p : Peer) (e : PeerEvent) (h : Option Heard) →
    is_some p.standing.waiting ≡ holds_cer p.standing.core.state → fits h ≡ true →
    (c : Command) → is_asked p.standing.core.state (input_of e h) c ≡ true → has_what_it_says p e h c ≡ true
there p e h waits fit (command.SendCea c) is =
    either_there (holds_cer p.standing.core.state) (is_some p.standing.waiting) (is_some h) waits
    (is_read (word_of (input_of e h))) (λ r. (is_message e h r).1) is
there p e h waits fit (command.SendRefusal c) is = is_refusal e h fit is
there p e h waits fit (command.SendDwa c) is = (is_message e h is).1
there p e h waits fit (command.SendDpa c) is = (is_message e h is).1
there p e h waits fit (command.SendDpr c) is = sym (is_stopped e h) ∙ is
there p e h waits fit (command.SendSubmit c) is = sym (is_submitted e h) ∙ is
there p e h waits fit command.Up is = (is_message e h is).0
there p e h waits fit (command.Connect c) is = refl
there p e h waits fit (command.Close c) is = refl
there p e h waits fit (command.SendCer c) is = refl
there p e h waits fit (command.SendDwr c) is = refl

pub all_there : (p : Peer) (e : PeerEvent) (h : Option Heard) →
    is_some p.standing.waiting ≡ holds_cer p.standing.core.state → fits h ≡ true →
    (l : List Command) → list_all (is_asked p.standing.core.state (input_of e h)) l ≡ true →
    list_all (has_what_it_says p e h) l ≡ true
all_there p e h waits fit [] is = refl
all_there p e h waits fit (c ∷ l) is =
    let asked = is_asked p.standing.core.state (input_of e h) in
    let both = and_parts (asked c) (list_all asked l) is in
    and_from (has_what_it_says p e h c) (list_all (has_what_it_says p e h) l)
    (there p e h waits fit c both.0) (all_there p e h waits fit l both.1)
