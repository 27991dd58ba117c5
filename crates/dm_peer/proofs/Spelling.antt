-- Each event sends spellings alone, and keeps the numbers of a peer fitting.
use Rattle.std.proofs.Common.{◌≡◌, ℕ, ◌<◌, ◌^◌, ◌%◌, ◌+◌, Bool, true, false, Option, None, Some, IfSome, List, if◌then◌else◌, refl, sym, subst, ap, ◌∙◌, arith}
use Rattle.std.proofs.lemmas.List.Elements.{All-nil}
use Rattle.dm_wire.specs.declared.message.Header.{Header}
use Rattle.dm_wire.specs.declared.message.Message.{Message}
use Rattle.dm_wire.specs.Limits.{HeaderFits}
use Rattle.dm_wire.specs.Spelling.{SpellsMessage}
use Rattle.dm_wire.specs.Whole.{message_in}
use Rattle.dm_machine.specs.Moves as moves
use Rattle.dm_peer.specs.declared.requests.Request.{Request}
use Rattle.dm_peer.specs.declared.peer.Peer.{Peer}
use Rattle.dm_peer.specs.Events.{PeerEvent, Start, Arrived, Submit, octets_in}
use Rattle.dm_peer.specs.Configs.{wins}
use Rattle.dm_wire.specs.Octets.{AreOctets}
use Rattle.dm_peer.specs.Said.{Heard, header_heard}
use Rattle.dm_machine.specs.Awaiting.{holds_cer}
use Rattle.dm_peer.specs.After.{request_in, next_after}
use Rattle.dm_peer.specs.Acts.{Outcome, turned, input_of, outcome_of, steps, can_submit, acts}
use Rattle.dm_peer.specs.Settled.{IsSettled}
use Rattle.dm_peer.specs.Steps.{is_submit}
use Rattle.dm_peer.specs.Spelled.{IsSpelling, SendsSpelling, IsFitting, FreshIsFitting, LeavesSpelled, EachSendIsSpelled}
use Rattle.dm_peer.specs.Cases.{is_bare, Hears, unread, no_message, message, submits_it, bare, Case, step, drop, refusal}
use Rattle.dm_peer.proofs.Headers.{heard_header}
use Rattle.dm_peer.proofs.Cases.{cases}
use Rattle.dm_peer.proofs.Few.{are_asked, facts}
use Rattle.dm_peer.proofs.Asking.{fits, all_there}
use Rattle.dm_peer.proofs.Asking as asking
use Rattle.dm_peer.proofs.Following.{turned_is}
use Rattle.dm_peer.proofs.SpelledActions.{SpellingLaws, IsGiven, all_spelled}

-- the numbers after a step fit
wrapped : (n : ℕ) → (n + 1) % 2 ^ 32 < 256 ^ 4
wrapped n = omega arith

next_fits : (sent : Option Request) (n : ℕ) → n < 256 ^ 4 → next_after sent n < 256 ^ 4
next_fits None n fit = fit
next_fits (Some r) n fit = wrapped n

heard_fits : (h : Option Heard) → IfSome h (λ said. HeaderFits said.header) → IfSome (header_heard h) HeaderFits
heard_fits None fit = tt
heard_fits (Some h) fit = fit

waiting_fits : (after before : Bool) (old now : Option Header) → IfSome old HeaderFits → IfSome now HeaderFits →
    IfSome (if after then (if before then old else now) else None) HeaderFits
waiting_fits false before old now was is = tt
waiting_fits true true old now was is = was
waiting_fits true false old now was is = is

-- a step: what its commands say is there, so that a Submit alone sends what it brings
by_outcome : SpellingLaws → (p : Peer) (e : PeerEvent) (h : Option Heard) → IsSettled p → IsGiven p e h →
    fits h ≡ true → (o : moves.NodeOutcome) → are_asked p.standing.core.state (input_of e h) o ≡ true →
    LeavesSpelled (outcome_of p e h o)
by_outcome laws p e h was given fit (moves.NodeRefused r) is = tt
by_outcome laws p e h was given fit (moves.NodeMoved commands core) is = (
  all_spelled laws p e h given commands (all_there p e h was.waiting fit commands is),
  record {
    next = next_fits (request_in commands) p.standing.next given.kept.next;
    waiting =
        waiting_fits (holds_cer core.state) (holds_cer p.standing.core.state) p.standing.waiting (header_heard h)
        given.kept.waiting (heard_fits h given.header);
  },
)

step_spelled : SpellingLaws → (p : Peer) (e : PeerEvent) (h : Option Heard) → IsSettled p → IsGiven p e h →
    fits h ≡ true → LeavesSpelled (steps p e h)
step_spelled laws p e h was given fit =
    let n = p.standing.core in
    let i = input_of e h in
    let w = wins p.config in
    by_outcome laws p e h was given fit (turned n i w)
    (ap (are_asked n.state i) (turned_is n i w) ∙ (facts laws.few n i w was.shaped).asked)

-- a header fits where octets spell its message
spelled_fits : (m : Message) (s : List ℕ) → SpellsMessage m s → HeaderFits m.header
spelled_fits m s is =
    record {
      command = is.header.command_fits;
      application = is.header.application_fits;
      hop = is.header.hop_fits;
      end = is.header.end_fits;
    }

-- what may be submitted is a spelling
can_spell : SpellingLaws → (s : List ℕ) → AreOctets s → (o : Option Message) → message_in s ≡ o →
    can_submit o ≡ true → IsSpelling s
can_spell laws s octets None is can = cc
can_spell laws s octets (Some m) is can = (m, (laws.within s m octets).0 is)

bare_given : (p : Peer) (e : PeerEvent) → IsFitting p → is_submit e ≡ false → IsGiven p e None
bare_given p e fit other = record { kept = fit; header = tt; submitted = λ is. cc }

bare_brings : (e : PeerEvent) → is_bare e ≡ true → is_submit e ≡ false
bare_brings (Submit s) is = absurd (cc is)
bare_brings (Arrived c s) is = absurd (cc is)
bare_brings (Start c) is = refl
bare_brings _ is = refl

-- what an event brings to a peer that hears it
given : SpellingLaws → (p : Peer) (e : PeerEvent) (h : Option Heard) → AreOctets (octets_in e) → IsFitting p →
    Hears p e h → IsGiven p e h
given laws p e h octets fit (unread c s deaf) = bare_given p (Arrived c s) fit refl
given laws p e h octets fit (no_message c s read none) = bare_given p (Arrived c s) fit refl
given laws p e h octets fit (message c s m read is kept) =
    record {
      kept = fit;
      header =
          subst HeaderFits (sym (heard_header p.config m))
          (spelled_fits m s ((laws.within s m octets).0 is));
      submitted = λ submit. cc;
    }
given laws p e h octets fit (submits_it s opened can) =
    record { kept = fit; header = tt; submitted = λ submit. can_spell laws s octets (message_in s) refl can }
given laws p e h octets fit (bare e' is) = bare_given p e' fit (bare_brings e' is)

pub fresh_is_fitting : FreshIsFitting
fresh_is_fitting c next fit = record { next = fit; waiting = tt }

by_case : SpellingLaws → (p : Peer) (e : PeerEvent) (o : Outcome) → AreOctets (octets_in e) → IsSettled p →
    IsFitting p → Case p e o → LeavesSpelled o
by_case laws p e o octets was fit (step e' h hears) =
    step_spelled laws p e' h was (given laws p e' h octets fit hears) (asking.heard_fits p e' h hears)
by_case laws p e o octets was fit (drop c s m read is dropped) = (All-nil SendsSpelling, fit)
by_case laws p e o octets was fit (refusal s f is) = tt

pub each_send_is_spelled : SpellingLaws → EachSendIsSpelled
each_send_is_spelled laws p e octets was fit = by_case laws p e (acts p e) octets was fit (cases p e)
