-- Peers over octets match their answers at every event.
use Rattle.std.proofs.Common.{◌≡◌, inl, ℕ, ◌==◌, Bool, true, false, not, ◌&&◌, ◌||◌, nat_eq, if◌then◌else◌}
use Rattle.std.proofs.Common.{Option, None, Some, List, [], map, refl, sym, ap, subst, ◌∙◌}
use Rattle.std.specs.Prelude.{is_none}
use Rattle.std.specs.Option.{option_eq}
use Rattle.std.proofs.lemmas.Bool.{and_parts, and_from, eqb-true}
use Rattle.dm_wire.specs.declared.message.Header.{Header}
use Rattle.dm_wire.specs.declared.message.Message.{Message}
use Rattle.dm_wire.specs.Whole.{message_in}
use Rattle.dm_base.specs.Codes.{capabilities_exchange, disconnect_peer}
use Rattle.dm_base.specs.Commands.{is_base_command}
use Rattle.dm_base.specs.Fit.{is_number}
use Rattle.dm_machine.specs.declared.connection.Conn.{Conn}
use Rattle.dm_machine.specs.declared.outputs.Command.{Command}
use Rattle.dm_machine.specs.Node.{Node, is_shaped}
use Rattle.dm_machine.specs.Shape.{KeepsShape, EachStepKeepsShape}
use Rattle.dm_machine.specs.Awaiting.{awaits_dpa, holds_cer, number_after}
use Rattle.dm_machine.specs.Connection.{Hold, hold_of}
use Rattle.dm_machine.specs.Connection as machine
use Rattle.dm_machine.specs.Moves as moves
use Rattle.dm_machine.specs.Moves.{machine_outcome}
use Rattle.dm_peer.specs.declared.peer.Peer.{Peer}
use Rattle.dm_peer.specs.declared.standing.Awaited.{Awaited}
use Rattle.dm_peer.specs.Configs.{wins}
use Rattle.dm_peer.specs.Events as told
use Rattle.dm_peer.specs.Said.{Heard}
use Rattle.dm_peer.specs.Sent.{actions_of}
use Rattle.dm_peer.specs.After.{awaited_of, request_in, is_dpr, standing_after}
use Rattle.dm_peer.specs.Acts.{Outcome, acts, input_of, outcome_of, standing_at, steps, turned, is_made}
use Rattle.dm_peer.specs.Acts.{is_unawaited, is_dropped}
use Rattle.dm_peer.specs.Cases.{Hears, Case, step, drop, refusal, EachEventIsACase}
use Rattle.dm_two_peers.specs.Machine.{conn}
use Rattle.dm_two_peers.specs.Machine as two
use Rattle.dm_two_peers.specs.Peers.{Event, ArrivedEvent, Action, ActsBy, concern_by, deed_in, closes_at}
use Rattle.dm_two_peers.specs.Requests.{heard_on, sent_on, waits, still, MatchesOn}
use Rattle.dm_octet_peers.specs.Octets.{of_event, as_actions, as_reply, octet_peers}
use Rattle.dm_octet_peers.specs.Talking.{is_standing}
use Rattle.dm_octet_peers.specs.Matching.{has_fit, is_numbered_so, base_kind, is_good_dpr, is_good_dpa, octet_requests}
use Rattle.dm_octet_peers.specs.Matching.{is_matching, OctetAnswersMatch}
use Rattle.dm_octet_peers.proofs.Machine.{arrives}
use Rattle.dm_octet_peers.proofs.KeepingWorld.{fresh_stands}
use Rattle.dm_octet_peers.proofs.Replying.{turned_is, stands_after}
use Rattle.dm_octet_peers.proofs.Matching.{not_is, not_both, self, spelled_passes}
use Rattle.dm_octet_peers.proofs.MatchingOrders.{sent_by_orders, closed_by_orders}
use Rattle.dm_octet_peers.proofs.MatchingSteps.{StepLaws, step_matches}

-- an answer that is awaited isn't dropped
unawaited_parts : (a : Awaited) (h : Header) → is_unawaited a h ≡ true →
    (not h.request ≡ true) × (option_eq nat_eq (awaited_of a h.command) (Some h.hop_id) ≡ false)
unawaited_parts a h e =
    let b = and_parts (not h.request) _ e in
    let c = and_parts (is_base_command h.command) _ b.1 in
    (b.0, not_is (option_eq nat_eq (awaited_of a h.command) (Some h.hop_id)) c.1)

hop_awaited : (o : Option ℕ) (k : ℕ) (hop : ℕ) → o ≡ Some k → nat_eq hop k ≡ true →
    option_eq nat_eq o (Some hop) ≡ false → ⊥
hop_awaited o k hop is same apart =
    let found : option_eq nat_eq o (Some hop) ≡ true =
    ap (λ z. option_eq nat_eq z (Some hop)) is
    ∙ (ap (λ z. nat_eq k z) (eqb-true hop k same) ∙ self k) in
    not_both _ found apart

numbered_parts : (request : Bool) (command k : ℕ) (h : Header) → is_numbered_so request command k h ≡ true →
    (nat_eq h.hop_id k ≡ true) × ((nat_eq h.command command ≡ true) × ((if request then h.request else not h.request)
    ≡ true))
numbered_parts request command k h e =
    let a = and_parts (nat_eq h.hop_id k) _ e in
    (a.0, and_parts (nat_eq h.command command) _ a.1)

cea_kept : (a : Awaited) (h : Header) (k : ℕ) → a.cea ≡ Some k → is_numbered_so false capabilities_exchange k h ≡ true →
    is_unawaited a h ≡ true → ⊥
cea_kept a h k is numbered un =
    let parts = numbered_parts false capabilities_exchange k h numbered in
    hop_awaited (awaited_of a h.command) k h.hop_id
    (ap (awaited_of a) (eqb-true h.command capabilities_exchange parts.1.0) ∙ is) parts.0 (unawaited_parts a h un).1

dpa_kept : (a : Awaited) (h : Header) (k : ℕ) → a.dpa ≡ Some k → is_numbered_so false disconnect_peer k h ≡ true →
    is_unawaited a h ≡ true → ⊥
dpa_kept a h k is numbered un =
    let parts = numbered_parts false disconnect_peer k h numbered in
    hop_awaited (awaited_of a h.command) k h.hop_id
    (ap (awaited_of a) (eqb-true h.command disconnect_peer parts.1.0) ∙ is) parts.0 (unawaited_parts a h un).1

-- a drop
record IsDropOn (p : Peer) (c : ℕ) (s : List ℕ) (m : Message) (heard : Option (List ℕ)) (k : two.LinkConcern) : Type 0 where
  pub spells : message_in s ≡ Some m
  pub un : is_unawaited p.standing.awaited m.header ≡ true
  pub message : (y : List ℕ) → heard ≡ Some y → s ≡ y
  pub made : (y : List ℕ) → heard ≡ Some y → is_made (hold_of p.standing.core (conn c)) ≡ true
  pub no_ack : k ≡ two.MakesLink → ⊥

dropped_on : (p : Peer) (d : Conn) (s : List ℕ) (m : Message) (c : ℕ) → message_in s ≡ Some m →
    is_dropped p d m.header ≡ true → IsDropOn p c s m (heard_on c (ArrivedEvent d s)) (concern_by (ArrivedEvent d s) (conn c))
dropped_on p d s m c spells dropped =
    let parts = and_parts (is_made (hold_of p.standing.core d)) (is_unawaited p.standing.awaited m.header) dropped in
    by_test parts.0 parts.1 (d.0 == c) refl
  where
    by_test : is_made (hold_of p.standing.core d) ≡ true → is_unawaited p.standing.awaited m.header ≡ true →
        (b : Bool) → (d.0 == c) ≡ b →
        IsDropOn p c s m (if b then Some s else None) (if b then two.HeardOnLink else two.Elsewhere)
    by_test made un true named =
        record {
          spells = spells;
          un = un;
          message = λ y e. cc;
          made = λ y e. subst (λ z. is_made (hold_of p.standing.core z) ≡ true) (ap conn (eqb-true d.0 c named)) made;
          no_ack = λ e. cc;
        }
    by_test made un false named =
        record { spells = spells; un = un; message = λ y e. cc; made = λ y e. cc; no_ack = λ e. cc }

drop_matches : (p : Peer) (c : ℕ) (s : List ℕ) (m : Message) (heard : Option (List ℕ)) (k : two.LinkConcern) →
    IsDropOn p c s m heard k →
    MatchesOn octet_requests p p (hold_of p.standing.core (conn c)) (hold_of p.standing.core (conn c)) k heard []
drop_matches p c s m heard k it =
    record {
      asks = λ pends ack made. absurd (it.no_ack ack);
      awaits = λ no_ack made. record {
        made = made;
        number = refl;
        silent = refl;
        apart = λ y n came number cea. cea_kept p.standing.awaited m.header n number
            (spelled_passes (λ z. is_numbered_so false capabilities_exchange n z.header) y m (spelled y came) cea) it.un;
      };
      rests = λ new none no_start. (new, refl);
      takes = λ new y n came cer. absurd (not_new new (it.made y came));
      owes = λ taken n number. waits taken number refl;
      ends = λ closing n number. still closing number (λ y came dpa.
          dpa_kept p.standing.awaited m.header n number
          (and_parts (is_numbered_so false disconnect_peer n m.header) (is_good_dpa (base_kind m))
          (spelled_passes (λ z. is_numbered_so false disconnect_peer n z.header && is_good_dpa (base_kind z)) y m
          (spelled y came) dpa)).0 it.un);
      stays = λ closing n number. (closing, number);
      ended = λ closing none. inl (closing, none);
      answers = λ y n came made dpr.
          let a = and_parts (has_fit m.header) _ (spelled_passes (λ z. has_fit z.header
          && (is_numbered_so true disconnect_peer n z.header && is_good_dpr (base_kind z))) y m (spelled y came) dpr) in
          let b = and_parts (is_numbered_so true disconnect_peer n m.header) (is_good_dpr (base_kind m)) a.1 in
          absurd (not_both m.header.request (numbered_parts true disconnect_peer n m.header b.0).1.1
          (not_is m.header.request (unawaited_parts p.standing.awaited m.header it.un).0));
      says = λ e. cc;
    }
  where
    spelled : (y : List ℕ) → heard ≡ Some y → message_in y ≡ Some m
    spelled y came = subst (λ z. message_in z ≡ Some m) (it.message y came) it.spells

    not_new : {x : Hold} → x ≡ machine.NotHeld → is_made x ≡ true → ⊥
    not_new e f = let no = ap (λ z. is_made z) e in cc (no, f)

-- what is taken of the peer's own laws
pub record PeerLaws : Type 0 where
  pub steps : StepLaws
  pub shape : EachStepKeepsShape
  pub cases : EachEventIsACase

stands_parts : (p : Peer) → is_standing p ≡ true → (is_number p.standing.next ≡ true)
    × ((is_shaped p.standing.core ≡ true) × ((holds_cer p.standing.core.state || is_none p.standing.waiting) ≡ true))
stands_parts p e =
    let a = and_parts (is_number p.standing.next) _ e in
    (a.0, and_parts (is_shaped p.standing.core) _ a.1)

none_after : (awaits sends : Bool) (n : ℕ) (old : Option ℕ) →
    (awaits || is_none (number_after awaits sends n old)) ≡ true
none_after true sends n old = refl
none_after false sends n old = refl

module _ (laws : PeerLaws) (p next : Peer) (e : Event (List ℕ)) (actions : List (Action (List ℕ)))
    (fit : is_matching p ≡ true) where
  abbrev Matched : Type 0
  Matched =
      (is_matching next ≡ true) × ((c : ℕ) → closes_at c (map deed_in actions) ≡ false →
      MatchesOn octet_requests p next (hold_of p.standing.core (conn c)) (hold_of next.standing.core (conn c))
      (concern_by e (conn c)) (heard_on c e) (sent_on c actions))

  stood : (is_standing p ≡ true) × ((awaits_dpa p.standing.core.state || is_none p.standing.awaited.dpa) ≡ true)
  stood = and_parts (is_standing p) _ fit

  shaped_after : (i : moves.NodeOutcome) → KeepsShape i → (commands : List Command) (core : Node) →
      i ≡ moves.NodeMoved commands core → is_shaped core ≡ true
  shaped_after (moves.NodeMoved commands core) kept commands' core' is =
      let same : core ≡ core' = cc is in subst (λ z. is_shaped z ≡ true) same kept.0
  shaped_after (moves.NodeRefused r) kept commands core is = cc

  by_outcome : (h : Option Heard) → Hears p (of_event e) h → (o : moves.NodeOutcome) →
      machine_outcome p.standing.core (input_of (of_event e) h) (wins p.config) ≡ o →
      as_reply (outcome_of p (of_event e) h o) ≡ ActsBy actions next → Matched
  by_outcome h hears (moves.NodeRefused r) is replies = cc
  by_outcome h hears (moves.NodeMoved commands core) is replies =
      let parts = stands_parts p stood.0 in
      let after = shaped_after (machine_outcome p.standing.core (input_of (of_event e) h) (wins p.config))
      (laws.shape p.standing.core (input_of (of_event e) h) (wins p.config) parts.1.0) commands core is in
      let done : as_actions (actions_of p (of_event e) h commands) ≡ actions = cc replies in
      let same : standing_at p (standing_after p.standing h (request_in commands) core) ≡ next = cc replies in
      subst (λ (q : Peer). (is_matching q ≡ true) × ((c : ℕ) → closes_at c (map deed_in actions) ≡ false →
      MatchesOn octet_requests p q (hold_of p.standing.core (conn c)) (hold_of q.standing.core (conn c))
      (concern_by e (conn c)) (heard_on c e) (sent_on c actions))) same (
        and_from (is_standing (standing_at p (standing_after p.standing h (request_in commands) core))) _
            (stands_after p h commands core stood.0 after)
            (none_after (awaits_dpa core.state) (is_dpr (request_in commands)) p.standing.next p.standing.awaited.dpa),
        λ c open_still.
            subst (λ (ss : List (List ℕ)). MatchesOn octet_requests p
            (standing_at p (standing_after p.standing h (request_in commands) core)) (hold_of p.standing.core (conn c))
            (hold_of core (conn c)) (concern_by e (conn c)) (heard_on c e) ss)
            (sym (sent_by_orders p (of_event e) h c commands) ∙ ap (λ done_now. sent_on c done_now) done)
            (step_matches laws.steps p e h commands core c
            (record {
              shaped = parts.1.0;
              after = after;
              number = parts.0;
              waiting = parts.1.1;
              ending = stood.1;
              hears = hears;
              moved = is;
              open_still = sym (closed_by_orders p (of_event e) h c commands)
                  ∙ (ap (λ done_now. closes_at c (map deed_in done_now)) done ∙ open_still);
            })),
      )

  by_case : (pe : told.PeerEvent) (o : Outcome) → pe ≡ of_event e → Case p pe o → as_reply o ≡ ActsBy actions next →
      Matched
  by_case pe o is (step pe' h hears) replies =
      by_outcome h (subst (λ z. Hears p z h) is hears)
      (turned p.standing.core (input_of (of_event e) h) (wins p.config))
      (sym (turned_is p.standing.core (input_of (of_event e) h) (wins p.config)))
      (subst (λ z. as_reply (steps p z h) ≡ ActsBy actions next) is replies)
  by_case pe o is (refusal s f r) replies = cc
  by_case pe o is (drop d s m deaf spells dropped) replies =
      let none : [] ≡ actions = cc replies in
      let same : p ≡ next = cc replies in
      let arrived : e ≡ ArrivedEvent d s = arrives e d s (sym is) in
      subst (λ (q : Peer). (is_matching q ≡ true) × ((c : ℕ) → closes_at c (map deed_in actions) ≡ false →
      MatchesOn octet_requests p q (hold_of p.standing.core (conn c)) (hold_of q.standing.core (conn c))
      (concern_by e (conn c)) (heard_on c e) (sent_on c actions))) same (
        fit,
        λ c open_still.
            subst (λ (done_now : List (Action (List ℕ))). MatchesOn octet_requests p p (hold_of p.standing.core (conn c))
            (hold_of p.standing.core (conn c)) (concern_by e (conn c)) (heard_on c e) (sent_on c done_now)) none
            (subst (λ (f : Event (List ℕ)). MatchesOn octet_requests p p (hold_of p.standing.core (conn c))
            (hold_of p.standing.core (conn c)) (concern_by f (conn c)) (heard_on c f) []) (sym arrived)
            (drop_matches p c s m (heard_on c (ArrivedEvent d s)) (concern_by (ArrivedEvent d s) (conn c))
            (dropped_on p d s m c spells dropped))),
      )

  pub event_matches : as_reply (acts p (of_event e)) ≡ ActsBy actions next → Matched
  event_matches replies = by_case (of_event e) (acts p (of_event e)) refl (laws.cases p (of_event e)) replies

pub octets_match : PeerLaws → OctetAnswersMatch
octets_match laws =
    record {
      matches = λ p next e actions c it replies open_still.
          (event_matches laws p next e actions it.fit replies).1 c open_still;
      keeps = λ p next e actions it replies. (event_matches laws p next e actions it.fit replies).0;
      resets = λ p it.
          let stood = and_parts (is_standing p) _ it.fit in
          and_from (is_standing (octet_peers.reset p)) _
          (fresh_stands p.config p.standing.next (stands_parts p stood.0).0) refl;
    }
