-- At each step and each drop peers over octets match their answers.
use Rattle.std.proofs.Common.{◌≡◌, ◌⊎◌, inl, inr, ℕ, ◌==◌, Bool, true, false, not, ◌&&◌, ◌||◌, nat_eq, if◌then◌else◌}
use Rattle.std.proofs.Common.{Option, None, Some, List, [], ◌∷◌, ◌++◌, refl, sym, ap, subst, ◌∙◌}
use Rattle.std.specs.Prelude.{is_none}
use Rattle.std.specs.List.{list_any}
use Rattle.std.proofs.lemmas.Bool.{and_parts, eqb-true, or_cases, cases_Bool}
use Rattle.dm_wire.specs.declared.message.Header.{Header}
use Rattle.dm_wire.specs.declared.message.Message.{Message}
use Rattle.dm_base.specs.Codes.{disconnect_peer, success}
use Rattle.dm_base.specs.Fit.{is_number}
use Rattle.dm_base.specs.Built.{built_cer, built_cea, built_dpr, built_answer}
use Rattle.dm_machine.specs.declared.inputs.Word.{Word}
use Rattle.dm_machine.specs.declared.inputs.Word.TheVariants as word
use Rattle.dm_machine.specs.declared.outputs.Command.{Command}
use Rattle.dm_machine.specs.declared.outputs.Command.TheVariants as command
use Rattle.dm_machine.specs.declared.state_name.State.{State}
use Rattle.dm_machine.specs.declared.state_name.State.TheVariants as state
use Rattle.dm_machine.specs.Node.{Node, is_shaped}
use Rattle.dm_machine.specs.Forms.{EachShapeIsAForm}
use Rattle.dm_machine.specs.Awaiting.{awaits_cea, awaits_dpa, holds_cer}
use Rattle.dm_machine.specs.Unread.{reads_first, ClosesUnread}
use Rattle.dm_machine.specs.Connection.{Hold, ConnOrder, hold_of, orders_to, if_ordered, with_order, Concern, concern_of}
use Rattle.dm_machine.specs.Connection as machine
use Rattle.dm_machine.specs.Openings.{is_hold, is_order, has_order}
use Rattle.dm_machine.specs.Ordered.{OrdersAreToldApart}
use Rattle.dm_machine.specs.Changes.{changed_to, EachConnectionChangesAsAllowed}
use Rattle.dm_machine.specs.EachStep.{EachStepHolds}
use Rattle.dm_machine.specs.Upward.{is_open_hold}
use Rattle.dm_machine.specs.Moves as moves
use Rattle.dm_machine.specs.Moves.{is_open, machine_outcome}
use Rattle.dm_peer.specs.declared.peer.Peer.{Peer}
use Rattle.dm_peer.specs.Configs.{wins}
use Rattle.dm_peer.specs.Events.{octets_in, cause_in}
use Rattle.dm_peer.specs.Octets.{octets_of}
use Rattle.dm_peer.specs.Said.{Heard, heard_in, word_heard, header_heard}
use Rattle.dm_peer.specs.Sent.{cer_answered, header_of, fault_in}
use Rattle.dm_peer.specs.After.{request_in, is_cer, is_dpr, standing_after}
use Rattle.dm_peer.specs.Acts.{input_of, standing_at, is_made}
use Rattle.dm_peer.specs.Cases.{Hears, submits_it, bare}
use Rattle.dm_two_peers.specs.Machine.{conn}
use Rattle.dm_two_peers.specs.Machine as two
use Rattle.dm_two_peers.specs.Peers.{Event, StartEvent, StopEvent, TimeoutEvent, TickEvent, AckEvent, NackEvent, GoneEvent, SubmitEvent, ArrivedEvent, concern_by}
use Rattle.dm_two_peers.specs.Delivery.{is_closing_hold, is_unmade}
use Rattle.dm_two_peers.specs.Requests.{heard_on, IsEnding, StillAwaits, AsksCea, Owes, waits, gives, AwaitsEnd, still, asks}
use Rattle.dm_two_peers.specs.Requests.{HeardEnd, MatchesOn}
use Rattle.dm_octet_peers.specs.Octets.{of_event}
use Rattle.dm_octet_peers.specs.Matching.{has_fit, is_numbered_so, base_kind, is_good_dpr, is_good_dpa, waiting_number}
use Rattle.dm_octet_peers.specs.Matching.{octet_requests}
use Rattle.dm_octet_peers.proofs.Bases.{heard_header}
use Rattle.dm_octet_peers.proofs.MatchingTable.{is_ack, is_start, is_stop, brings_word, brings_cer, brings_dpr, brings_dpa}
use Rattle.dm_octet_peers.proofs.MatchingTable.{is_submit, is_silent, just_one, IsWell, step_is_well}
use Rattle.dm_octet_peers.proofs.MatchingStates.{is_state_for, hold_fits, is_stop_input, same, step_keeps_numbers}
use Rattle.dm_octet_peers.proofs.MatchingOrders.{said_for, all_said}
use Rattle.dm_octet_peers.proofs.MatchingMessages.{MessageLaws, cer_is, cea_is, dpr_is, dpa_is, dpr_heard, dpa_heard, dpr_asks}
use Rattle.dm_octet_peers.proofs.MatchingMessages.{answer_asks, cer_asks, dwr_asks, refusal_asks, submitted_asks}
use Rattle.dm_octet_peers.proofs.Walking.{is_submit_event}
use Rattle.dm_octet_peers.proofs.Matching.{if_is, both, not_is, not_both, self, made_by, taken_by, unheld_by, pending_by}
use Rattle.dm_octet_peers.proofs.Matching.{silent_by, one_by, closing_state, open_state, new_number, old_number, same_yes}
use Rattle.dm_octet_peers.proofs.Matching.{same_no, Spoken, deaf, wordless, speaks, Came, came_of, word_there, ack_there}
use Rattle.dm_octet_peers.proofs.Matching.{start_there, stop_there, word_no_stop, spelled_passes, spelled_none}
use Rattle.dm_octet_peers.proofs.Matching.{cer_parts, waits_number, waiting_parts}

pub record StepLaws : Type 0 where
  pub steps : EachStepHolds
  pub changes : EachConnectionChangesAsAllowed
  pub form : EachShapeIsAForm
  pub apart : OrdersAreToldApart
  pub closes : ClosesUnread
  pub messages : MessageLaws

-- one step of a peer, and a connection that isn't closed at it
pub record IsTurn (p : Peer) (e : Event (List ℕ)) (h : Option Heard) (commands : List Command) (core : Node)
    (c : ℕ) : Type 0 where
  pub shaped : is_shaped p.standing.core ≡ true
  pub after : is_shaped core ≡ true
  pub number : is_number p.standing.next ≡ true
  pub waiting : (holds_cer p.standing.core.state || is_none p.standing.waiting) ≡ true
  pub ending : (awaits_dpa p.standing.core.state || is_none p.standing.awaited.dpa) ≡ true
  pub hears : Hears p (of_event e) h
  pub moved : machine_outcome p.standing.core (input_of (of_event e) h) (wins p.config) ≡ moves.NodeMoved commands core
  pub open_still : has_order machine.Closes (orders_to (conn c) commands) ≡ false

reads_none : (s : State) → holds_cer s ≡ true → not (reads_first s) ≡ true
reads_none state.WaitConnAckElect e = refl
reads_none state.WaitReturns e = refl
reads_none _ e = cc

waits_by : (before after : Bool) (old heard : Option Header) → before ≡ true → after ≡ true →
    (if after then (if before then old else heard) else None) ≡ old
waits_by true true old heard e f = refl
waits_by false after old heard e f = cc
waits_by true false old heard e f = cc

heard_by : (before after : Bool) (old heard : Option Header) → before ≡ false → after ≡ true →
    (if after then (if before then old else heard) else None) ≡ heard
heard_by false true old heard e f = refl
heard_by true after old heard e f = cc
heard_by false false old heard e f = cc

none_waits : (b : Bool) (o : Option Header) → (b || is_none o) ≡ true → b ≡ false → o ≡ None
none_waits true o e f = cc
none_waits false None e f = refl
none_waits false (Some h) e f = cc

none_number : (b : Bool) (o : Option ℕ) → (b || is_none o) ≡ true → b ≡ false → o ≡ None
none_number true o e f = cc
none_number false None e f = refl
none_number false (Some h) e f = cc

unmade_hold : (h : Hold) → is_made h ≡ false → is_unmade h ≡ false → h ≡ machine.NotHeld
unmade_hold machine.NotHeld e f = refl
unmade_hold machine.Pending e f = cc
unmade_hold _ e f = cc

-- none of a list asks for the end
abbrev Quiet : List (List ℕ) → Type 0
Quiet xs = list_any octet_requests.asks_end xs ≡ false

one_quiet : (x : List ℕ) → octet_requests.asks_end x ≡ false → Quiet (x ∷ [])
one_quiet x is = ap (λ b. b || false) is

or_none : (a b : Bool) → (a || b) ≡ false → (a ≡ false) × (b ≡ false)
or_none true b e = cc
or_none false b e = (refl, e)

none_either : (xs ys : List (List ℕ)) → Quiet xs → Quiet ys → Quiet (xs ++ ys)
none_either [] ys e f = f
none_either (x ∷ xs) ys e f =
    let parts = or_none (octet_requests.asks_end x) (list_any octet_requests.asks_end xs) e in
    or_both (octet_requests.asks_end x) _ parts.0 (none_either xs ys parts.1 f)
  where
    or_both : (a b : Bool) → a ≡ false → b ≡ false → (a || b) ≡ false
    or_both false b e f = f
    or_both true b e f = cc

or_second : (a b : Bool) → b ≡ true → (a || b) ≡ true
or_second true b e = refl
or_second false b e = e

no_submit_named : (b : Bool) (k : Concern) → is_submit k ≡ false → is_submit (machine.if_named b k) ≡ true → ⊥
no_submit_named true k f e = cc
no_submit_named false k f e = cc

submit_event : (c : ℕ) (h : Option Heard) (e : Event (List ℕ)) →
    is_submit (concern_of (input_of (of_event e) h) (conn c)) ≡ true → is_submit_event (of_event e) ≡ true
submit_event c h (SubmitEvent s) is = refl
submit_event c h (StartEvent d) is = absurd (no_submit_named (d.0 == c) machine.StartsIt refl is)
submit_event c h (AckEvent d) is = absurd (no_submit_named (d.0 == c) machine.AcksIt refl is)
submit_event c h (StopEvent cause) is = cc
submit_event c h TimeoutEvent is = cc
submit_event c h TickEvent is = cc
submit_event c h (NackEvent d) is = absurd (no_submit_named (d.0 == c) machine.NacksIt refl is)
submit_event c h (GoneEvent d) is = absurd (no_submit_named (d.0 == c) machine.EndsIt refl is)
submit_event c h (ArrivedEvent d s) is =
    absurd (no_submit_named (d.0 == c) (machine.HeardOnIt (word_heard h)) refl is)

-- what is submitted asks for none
submits_none : (p : Peer) (h : Option Heard) (e : Event (List ℕ)) → Hears p (of_event e) h →
    is_submit_event (of_event e) ≡ true → octet_requests.asks_end (octets_in (of_event e)) ≡ false
submits_none p h (SubmitEvent s) (submits_it z opened can) is = submitted_asks s can
submits_none p h (SubmitEvent s) (bare z b) is = cc
submits_none p h (StartEvent d) hears is = cc
submits_none p h (StopEvent cause) hears is = cc
submits_none p h TimeoutEvent hears is = cc
submits_none p h TickEvent hears is = cc
submits_none p h (AckEvent d) hears is = cc
submits_none p h (NackEvent d) hears is = cc
submits_none p h (GoneEvent d) hears is = cc
submits_none p h (ArrivedEvent d s) hears is = cc

module _ (laws : StepLaws) (p : Peer) (e : Event (List ℕ)) (h : Option Heard) (commands : List Command) (core : Node)
    (c : ℕ) (turn : IsTurn p e h commands core c) where
  abbrev n : Node
  n = p.standing.core

  abbrev kk : Concern
  kk = concern_of (input_of (of_event e) h) (conn c)

  abbrev before : Hold
  before = hold_of p.standing.core (conn c)

  abbrev after : Hold
  after = hold_of core (conn c)

  abbrev orders : List ConnOrder
  orders = orders_to (conn c) commands

  abbrev sent : List (List ℕ)
  sent = all_said p (of_event e) h (orders_to (conn c) commands)

  abbrev next : Peer
  next = standing_at p (standing_after p.standing h (request_in commands) core)

  well : IsWell kk before (changed_to after orders)
  well = step_is_well laws.changes n core (input_of (of_event e) h) (wins p.config) c commands turn.shaped turn.moved
      turn.open_still

  before_state : is_state_for before n.state ≡ true
  before_state = hold_fits n c (laws.form n turn.shaped)

  after_state : is_state_for after core.state ≡ true
  after_state = hold_fits core c (laws.form core turn.after)

  nums : ((not (awaits_cea core.state) || same (awaits_cea n.state) (not (is_cer (request_in commands)))) ≡ true)
      × (((not (awaits_dpa n.state && awaits_dpa core.state) || not (is_dpr (request_in commands))) ≡ true)
      × ((not (is_open n.state && awaits_dpa core.state)
      || same (is_stop_input (input_of (of_event e) h)) (is_dpr (request_in commands))) ≡ true))
  nums =
      let all = step_keeps_numbers laws.steps n core (input_of (of_event e) h) (wins p.config) commands turn.shaped
      turn.moved in
      let a = and_parts _ _ all in
      (a.0, and_parts _ _ a.1)

  sent_one : (o : ConnOrder) (x : List ℕ) → just_one o orders ≡ true → all_said p (of_event e) h (o ∷ []) ≡ x ∷ [] →
      sent ≡ x ∷ []
  sent_one o x is says = ap (λ os. all_said p (of_event e) h os) (one_by laws.apart o orders is) ∙ says

  sent_any : (o : ConnOrder) (f : List ℕ → Bool) (x : List ℕ) → just_one o orders ≡ true →
      all_said p (of_event e) h (o ∷ []) ≡ x ∷ [] → f x ≡ true → list_any f sent ≡ true
  sent_any o f x is says passes = ap (λ xs. list_any f xs) (sent_one o x is says) ∙ ap (λ b. b || false) passes

  sent_none : is_silent orders ≡ true → sent ≡ []
  sent_none is = ap (λ os. all_said p (of_event e) h os) (silent_by orders is)

  came : (y : List ℕ) → heard_on c e ≡ Some y → Came p e h c y
  came y is = came_of p c h y e turn.hears is

  word_came : (y : List ℕ) → heard_on c e ≡ Some y → brings_word kk ≡ true
  word_came y is = ap brings_word (came y is).concern

  -- a new connection on which a message is read, and that isn't closed
  unheld_reads : before ≡ machine.NotHeld → (y : List ℕ) → heard_on c e ≡ Some y → holds_cer n.state ≡ false
  unheld_reads new y is =
      elim (cases_Bool (holds_cer n.state)) [
        | inl holds ↦
            let closes = laws.closes n (conn c) (word_heard h) (wins p.config) turn.shaped (reads_none n.state holds) new
            in
            let moves_so = sym turn.moved ∙ (ap (λ i. machine_outcome n i (wins p.config)) (came y is).enters ∙ closes) in
            let same_commands : commands ≡ command.Close (conn c) ∷ [] = cc moves_so in
            let closed : has_order machine.Closes (orders_to (conn c) commands) ≡ true =
            ap (λ os. has_order machine.Closes (orders_to (conn c) os)) same_commands
            ∙ ap (λ b. has_order machine.Closes (with_order (if_ordered b machine.Closes) [])) (self c) in
            absurd (not_both _ closed turn.open_still)
        | inr none ↦ none
      ]

  -- the CER goes out at the Ack
  asks_cea : before ≡ machine.Pending → after ≡ machine.Made → AsksCea octet_requests next sent
  asks_cea pends made =
      let w = if_is (is_hold machine.Made after) _ well.made (ap (λ x. is_hold machine.Made x) made) in
      let fits = subst (λ x. is_state_for x core.state ≡ true) made after_state in
      let awaits = (and_parts (awaits_cea core.state) (not (awaits_dpa core.state)) fits).0 in
      let was = subst (λ x. is_state_for x n.state ≡ true) pends before_state in
      let unasked = not_is (awaits_cea n.state)
      (and_parts (not (awaits_cea n.state)) (not (awaits_dpa n.state)) was).0 in
      let sends = same_no (awaits_cea n.state) (not (is_cer (request_in commands)))
      (if_is (awaits_cea core.state) _ nums.0 awaits) unasked in
      let one : just_one machine.SendsCer orders ≡ true = elim (or_cases _ _ w) [
        | inl was_made ↦
            let made_then = (and_parts (is_hold machine.Made before) _ was_made).0 in
            let apart : is_hold machine.Made before ≡ false = ap (λ x. is_hold machine.Made x) pends in
            absurd (not_both _ made_then apart)
        | inr acked ↦ (and_parts (is_ack kk) _ (and_parts (is_hold machine.Pending before) _ acked).1).1
      ] in
      record {
        number = p.standing.next;
        cer = octets_of (built_cer p.config.node p.standing.next);
        awaited = new_number (awaits_cea core.state) (is_cer (request_in commands)) p.standing.next
            p.standing.awaited.cea awaits (not_false (is_cer (request_in commands)) sends);
        sends = sent_one machine.SendsCer _ one refl;
        is = cer_is laws.messages p.config.node p.standing.next turn.number;
      }
    where
      not_false : (b : Bool) → not b ≡ false → b ≡ true
      not_false true e = refl
      not_false false e = cc

  -- and its CEA is awaited
  still_awaits : (before ≡ machine.Pending → concern_by e (conn c) ≡ two.MakesLink → ⊥) → after ≡ machine.Made →
      StillAwaits octet_requests p next before (heard_on c e) sent
  still_awaits no_ack made =
      let w = if_is (is_hold machine.Made after) _ well.made (ap (λ x. is_hold machine.Made x) made) in
      let fits = subst (λ x. is_state_for x core.state ≡ true) made after_state in
      let awaits = (and_parts (awaits_cea core.state) (not (awaits_dpa core.state)) fits).0 in
      elim (or_cases _ _ w) [
        | inl was ↦
            let a = and_parts (is_hold machine.Made before) _ was in
            let b = and_parts (is_silent orders) (not (brings_word kk)) a.1 in
            let is = made_by before a.0 in
            let awaited = (and_parts (awaits_cea n.state) (not (awaits_dpa n.state))
            (subst (λ x. is_state_for x n.state ≡ true) is before_state)).0 in
            let unsent = not_is (is_cer (request_in commands)) (same_yes (awaits_cea n.state) _
            (if_is (awaits_cea core.state) _ nums.0 awaits) awaited) in
            record {
              made = is;
              number = old_number (awaits_cea core.state) (is_cer (request_in commands)) p.standing.next
                  p.standing.awaited.cea awaits unsent;
              silent = sent_none b.0;
              apart = λ y k heard number cea. not_both (brings_word kk) (word_came y heard)
                  (not_is (brings_word kk) b.1);
            }
        | inr acked ↦
            let a = and_parts (is_hold machine.Pending before) _ acked in
            absurd (no_ack (pending_by before a.0)
            (ack_there c h e (and_parts (is_ack kk) (just_one machine.SendsCer orders) a.1).0))
      ]

  -- a new connection on which nothing comes
  rests : before ≡ machine.NotHeld → heard_on c e ≡ None → (concern_by e (conn c) ≡ two.StartsLink → ⊥) →
      (after ≡ machine.NotHeld) × (sent ≡ [])
  rests new none no_start =
      elim (cases_Bool (brings_word kk || is_start kk)) [
        | inl either ↦ elim (or_cases (brings_word kk) (is_start kk) either) [
          | inl words ↦ let y = word_there c h e words in let no_word = sym none ∙ y.1 in cc
          | inr starts ↦ absurd (no_start (start_there c h e starts))
        ]
        | inr calm ↦
            let w = if_is _ _ well.rests (both (is_hold machine.NotHeld before) (not (brings_word kk || is_start kk))
            (ap (λ x. is_hold machine.NotHeld x) new) (ap not calm)) in
            let a = and_parts (is_hold machine.NotHeld after) (is_silent orders) w in
            (unheld_by after a.0, sent_none a.1)
      ]

  -- a CER that comes first
  cer_spoken : (y : List ℕ) (k : ℕ) (o : Option Heard) → h ≡ o → before ≡ machine.NotHeld → heard_on c e ≡ Some y →
      octet_requests.is_cer k y ≡ true → brings_cer kk ≡ true →
      ((is_hold machine.Taken after && is_silent orders) || just_one machine.SendsCea orders) ≡ true →
      Spoken p y before o → Owes octet_requests next after sent k
  cer_spoken y k o is new heard cer brings either (deaf d) =
      let no_word = ap brings_cer ((came y heard).concern ∙ ap (λ z. machine.HeardOnIt (word_heard z)) is) in
      absurd (not_both (brings_cer kk) brings no_word)
  cer_spoken y k o is new heard cer brings either (wordless d) =
      let no_word = ap brings_cer ((came y heard).concern ∙ ap (λ z. machine.HeardOnIt (word_heard z)) is) in
      absurd (not_both (brings_cer kk) brings no_word)
  cer_spoken y k o is new heard cer brings either (speaks m there) =
      let of = cer_parts k m.header (spelled_passes _ y m there cer) in
      let unheld = unheld_reads new y heard in
      let header : header_heard h ≡ Some m.header =
      ap header_heard is ∙ ap Some (heard_header p.config m) in
      elim (or_cases _ (just_one machine.SendsCea orders) either) [
        | inl waiting ↦
            let a = and_parts (is_hold machine.Taken after) (is_silent orders) waiting in
            let taken = taken_by after a.0 in
            let holds : holds_cer core.state ≡ true =
            subst (λ x. is_state_for x core.state ≡ true) taken after_state in
            waits taken
            (ap waiting_number (heard_by (holds_cer n.state) (holds_cer core.state) p.standing.waiting (header_heard h)
            unheld holds ∙ header) ∙ waits_number k m.header of) (sent_none a.1)
        | inr gives_now ↦
            let none = none_waits (holds_cer n.state) p.standing.waiting turn.waiting unheld in
            let to : cer_answered p.standing.waiting h ≡ m.header =
            ap (λ w. cer_answered w h) none ∙ (ap (λ z. cer_answered None z) is ∙ heard_header p.config m) in
            gives (octets_of (built_cea p.config.node m.header success None))
            (sent_one machine.SendsCea _ gives_now refl
            ∙ ap (λ w. octets_of (built_cea p.config.node w success None) ∷ []) to)
            (subst (λ i. octet_requests.is_cea i (octets_of (built_cea p.config.node m.header success None)) ≡ true)
            of.number (cea_is laws.messages p.config.node m.header of.fit of.command))
      ]

  takes : before ≡ machine.NotHeld → (y : List ℕ) (k : ℕ) → heard_on c e ≡ Some y → octet_requests.is_cer k y ≡ true →
      Owes octet_requests next after sent k
  takes new y k heard cer =
      let w = if_is _ _ well.takes (both (is_hold machine.NotHeld before) (brings_word kk)
      (ap (λ x. is_hold machine.NotHeld x) new) (word_came y heard)) in
      let a = and_parts (brings_cer kk) _ w in
      cer_spoken y k h refl new heard cer a.0 a.1 (came y heard).spoken

  -- one that waits
  owes : before ≡ machine.Taken → (k : ℕ) → waiting_number p.standing.waiting ≡ Some k →
      Owes octet_requests next after sent k
  owes taken k number =
      let w = if_is _ _ well.owes (ap (λ x. is_hold machine.Taken x) taken) in
      let waiting = waiting_parts p.standing.waiting k number in
      let holds : holds_cer n.state ≡ true = subst (λ x. is_state_for x n.state ≡ true) taken before_state in
      elim (or_cases _ (just_one machine.SendsCea orders) w) [
        | inl still_waits ↦
            let a = and_parts (is_hold machine.Taken after) (is_silent orders) still_waits in
            let taken' = taken_by after a.0 in
            let holds' : holds_cer core.state ≡ true =
            subst (λ x. is_state_for x core.state ≡ true) taken' after_state in
            waits taken'
            (ap waiting_number (waits_by (holds_cer n.state) (holds_cer core.state) p.standing.waiting (header_heard h)
            holds holds') ∙ number) (sent_none a.1)
        | inr gives_now ↦
            let to : cer_answered p.standing.waiting h ≡ waiting.0 = ap (λ o. cer_answered o h) waiting.1.0 in
            gives (octets_of (built_cea p.config.node waiting.0 success None))
            (sent_one machine.SendsCea _ gives_now refl
            ∙ ap (λ z. octets_of (built_cea p.config.node z success None) ∷ []) to)
            (subst (λ i. octet_requests.is_cea i (octets_of (built_cea p.config.node waiting.0 success None)) ≡ true)
            waiting.1.1.number
            (cea_is laws.messages p.config.node waiting.0 waiting.1.1.fit waiting.1.1.command))
      ]

  -- closing
  dpa_kept : is_closing_hold before ≡ true → is_closing_hold after ≡ true →
      next.standing.awaited.dpa ≡ p.standing.awaited.dpa
  dpa_kept closing closing' =
      let was = closing_state before n.state closing before_state in
      let now = closing_state after core.state closing' after_state in
      old_number (awaits_dpa core.state) (is_dpr (request_in commands)) p.standing.next p.standing.awaited.dpa now
      (not_is (is_dpr (request_in commands)) (if_is (awaits_dpa n.state && awaits_dpa core.state) _ nums.1.0
      (both (awaits_dpa n.state) (awaits_dpa core.state) was now)))

  opened : is_open_hold before ≡ true → (is_open n.state && not (awaits_dpa n.state)) ≡ true
  opened is = open_state before n.state is before_state

  asked_how : is_open_hold before ≡ true → is_closing_hold after ≡ true →
      same (is_stop_input (input_of (of_event e) h)) (is_dpr (request_in commands)) ≡ true
  asked_how is closing =
      let now = closing_state after core.state closing after_state in
      if_is (is_open n.state && awaits_dpa core.state) _ nums.1.1
      (both (is_open n.state) (awaits_dpa core.state)
      (and_parts (is_open n.state) (not (awaits_dpa n.state)) (opened is)).0 now)

  dpa_new : is_open_hold before ≡ true → is_closing_hold after ≡ true → is_stop kk ≡ true →
      next.standing.awaited.dpa ≡ Some p.standing.next
  dpa_new is closing stop =
      new_number (awaits_dpa core.state) (is_dpr (request_in commands)) p.standing.next p.standing.awaited.dpa
      (closing_state after core.state closing after_state)
      (same_yes _ (is_dpr (request_in commands)) (asked_how is closing) (stop_there c h e stop))

  dpa_none : is_open_hold before ≡ true → is_closing_hold after ≡ true →
      is_stop_input (input_of (of_event e) h) ≡ false → next.standing.awaited.dpa ≡ None
  dpa_none is closing calm =
      let open_now = and_parts (is_open n.state) (not (awaits_dpa n.state)) (opened is) in
      old_number (awaits_dpa core.state) (is_dpr (request_in commands)) p.standing.next p.standing.awaited.dpa
      (closing_state after core.state closing after_state)
      (same_no _ (is_dpr (request_in commands)) (asked_how is closing) calm)
      ∙ none_number (awaits_dpa n.state) p.standing.awaited.dpa turn.ending (not_is (awaits_dpa n.state) open_now.1)

  -- a DPA or a DPR that comes is heard as one
  closing_made : (x : Hold) → is_closing_hold x ≡ true → is_made x ≡ true
  closing_made machine.ClosingAsI e = refl
  closing_made machine.ClosingAsR e = refl
  closing_made _ e = cc

  dpa_brings : (y : List ℕ) (k : ℕ) (o : Option Heard) → h ≡ o → is_closing_hold before ≡ true →
      heard_on c e ≡ Some y → octet_requests.is_dpa k y ≡ true → Spoken p y before o → brings_dpa kk ≡ true
  dpa_brings y k o is closing heard dpa (deaf d) = absurd (not_both (is_made before) (closing_made before closing) d)
  dpa_brings y k o is closing heard dpa (wordless none) = absurd (spelled_none _ y none dpa)
  dpa_brings y k o is closing heard dpa (speaks m there) =
      let good = (and_parts (is_numbered_so false disconnect_peer k m.header) (is_good_dpa (base_kind m))
      (spelled_passes _ y m there dpa)).1 in
      ap brings_dpa ((came y heard).concern
      ∙ ap (λ z. machine.HeardOnIt z) (ap word_heard is ∙ dpa_heard p.config m good))

  closes_how : is_closing_hold after ≡ true → ((is_closing_hold before && not (brings_dpa kk))
      || (is_open_hold before && ((is_stop kk && just_one machine.SendsDpr orders)
      || (brings_dpr kk && just_one machine.SendsDpa orders)))) ≡ true
  closes_how closing = if_is (is_closing_hold after) _ well.closes closing

  dpr_came : brings_dpr kk ≡ true → (y : List ℕ) × (heard_on c e ≡ Some y)
  dpr_came brings = word_there c h e (dpr_word kk brings)
    where
      dpr_word : (k : Concern) → brings_dpr k ≡ true → brings_word k ≡ true
      dpr_word (machine.HeardOnIt word.Dpr) e = refl
      dpr_word _ e = cc

  ends : is_closing_hold after ≡ true → (k : ℕ) → next.standing.awaited.dpa ≡ Some k →
      AwaitsEnd octet_requests p before (heard_on c e) sent k
  ends closing k number =
      elim (or_cases _ _ (closes_how closing)) [
        | inl was ↦
            let a = and_parts (is_closing_hold before) (not (brings_dpa kk)) was in
            still a.0 (sym (dpa_kept a.0 closing) ∙ number) (λ y heard dpa.
            not_both (brings_dpa kk) (dpa_brings y k h refl a.0 heard dpa (came y heard).spoken)
            (not_is (brings_dpa kk) a.1))
        | inr opens ↦
            let a = and_parts (is_open_hold before) _ opens in
            elim (or_cases _ _ a.1) [
              | inl stops ↦
                  let b = and_parts (is_stop kk) (just_one machine.SendsDpr orders) stops in
                  let same_number : p.standing.next ≡ k = cc (sym (dpa_new a.0 closing b.0) ∙ number) in
                  asks (sent_any machine.SendsDpr (octet_requests.is_dpr k) _ b.1 refl
                  (subst (λ i. octet_requests.is_dpr i
                  (octets_of (built_dpr p.config.node p.standing.next (cause_in (of_event e)))) ≡ true) same_number
                  (dpr_is laws.messages p.config.node p.standing.next (cause_in (of_event e)) turn.number)))
              | inr answered ↦
                  let b = and_parts (brings_dpr kk) (just_one machine.SendsDpa orders) answered in
                  let y = dpr_came b.0 in
                  let none = dpa_none a.0 closing (word_no_stop p c h e y.0 (came y.0 y.1)) in
                  let no_number = sym none ∙ number in cc
            ]
      ]

  stays : is_closing_hold before ≡ true → (k : ℕ) → p.standing.awaited.dpa ≡ Some k →
      (is_closing_hold after ≡ true) × (next.standing.awaited.dpa ≡ Some k)
  stays closing k number =
      let closing' = if_is (is_closing_hold before) (is_closing_hold after) well.stays closing in
      (closing', dpa_kept closing closing' ∙ number)

  dpr_ends : (y : List ℕ) (o : Option Heard) → h ≡ o → heard_on c e ≡ Some y → brings_dpr kk ≡ true →
      Spoken p y before o → octet_requests.asks_end y ≡ true
  dpr_ends y o is heard brings (deaf d) =
      let no_word = ap brings_dpr ((came y heard).concern ∙ ap (λ z. machine.HeardOnIt (word_heard z)) is) in
      absurd (not_both (brings_dpr kk) brings no_word)
  dpr_ends y o is heard brings (wordless d) =
      let no_word = ap brings_dpr ((came y heard).concern ∙ ap (λ z. machine.HeardOnIt (word_heard z)) is) in
      absurd (not_both (brings_dpr kk) brings no_word)
  dpr_ends y o is heard brings (speaks m there) =
      let word_is = sym (ap brings_dpr ((came y heard).concern ∙ ap (λ z. machine.HeardOnIt (word_heard z)) is)) ∙ brings
      in
      ap (λ (z : Option Message). elim z [
        | None ↦ false
        | Some q ↦ nat_eq q.header.command disconnect_peer
            && q.header.request
      ]) there
      ∙ dpr_asks p.config m (by_word (heard_in p.config m).word word_is)
    where
      by_word : (w : Word) → brings_dpr (machine.HeardOnIt w) ≡ true → w ≡ word.Dpr
      by_word word.Dpr e = refl
      by_word _ e = cc

  ended : is_closing_hold after ≡ true → next.standing.awaited.dpa ≡ None →
      ((is_closing_hold before ≡ true) × (p.standing.awaited.dpa ≡ None)) ⊎ HeardEnd octet_requests (heard_on c e)
  ended closing none =
      elim (or_cases _ _ (closes_how closing)) [
        | inl was ↦
            let a = and_parts (is_closing_hold before) (not (brings_dpa kk)) was in
            inl (a.0, sym (dpa_kept a.0 closing) ∙ none)
        | inr opens ↦
            let a = and_parts (is_open_hold before) _ opens in
            elim (or_cases _ _ a.1) [
              | inl stops ↦
                  let b = and_parts (is_stop kk) (just_one machine.SendsDpr orders) stops in
                  let no_number = sym (dpa_new a.0 closing b.0) ∙ none in cc
              | inr answered ↦
                  let b = and_parts (brings_dpr kk) (just_one machine.SendsDpa orders) answered in
                  let y = dpr_came b.0 in
                  inr (record {
                    message = y.0;
                    came = y.1;
                    ends = dpr_ends y.0 h refl y.1 b.0 (came y.0 y.1).spoken;
                  })
            ]
      ]

  -- a DPR that comes is answered
  dpr_spoken : (y : List ℕ) (k : ℕ) (o : Option Heard) → h ≡ o → heard_on c e ≡ Some y → is_unmade before ≡ false →
      octet_requests.is_dpr k y ≡ true → Spoken p y before o → list_any (octet_requests.is_dpa k) sent ≡ true
  dpr_spoken y k o is heard made dpr (deaf d) =
      let new = unmade_hold before d made in
      let w = if_is _ _ well.takes (both (is_hold machine.NotHeld before) (brings_word kk)
      (ap (λ x. is_hold machine.NotHeld x) new) (word_came y heard)) in
      let no_word = ap brings_cer ((came y heard).concern ∙ ap (λ z. machine.HeardOnIt (word_heard z)) is) in
      absurd (not_both (brings_cer kk) (and_parts (brings_cer kk) _ w).0 no_word)
  dpr_spoken y k o is heard made dpr (wordless none) = absurd (spelled_none _ y none dpr)
  dpr_spoken y k o is heard made dpr (speaks m there) =
      let a = and_parts (has_fit m.header) _ (spelled_passes _ y m there dpr) in
      let b = and_parts (is_numbered_so true disconnect_peer k m.header) (is_good_dpr (base_kind m)) a.1 in
      let d = and_parts (nat_eq m.header.hop_id k) _ b.0 in
      let of_command = (and_parts (nat_eq m.header.command disconnect_peer) m.header.request d.1).0 in
      let brings : brings_dpr kk ≡ true =
      ap brings_dpr ((came y heard).concern
      ∙ ap (λ z. machine.HeardOnIt z) (ap word_heard is ∙ dpr_heard p.config m b.1)) in
      let unpending : not (is_hold machine.Pending before) ≡ true = not_pending before made in
      let one = if_is _ (just_one machine.SendsDpa orders) well.answers (both (brings_dpr kk) _ brings unpending) in
      let to : header_of h ≡ m.header = ap header_of is ∙ heard_header p.config m in
      sent_any machine.SendsDpa (octet_requests.is_dpa k) _ one refl
      (subst (λ z. octet_requests.is_dpa k (octets_of (built_answer p.config.node z success None)) ≡ true) (sym to)
      (subst (λ i. octet_requests.is_dpa i (octets_of (built_answer p.config.node m.header success None)) ≡ true)
      (eqb-true m.header.hop_id k d.0) (dpa_is laws.messages p.config.node m.header a.0 of_command)))
    where
      not_pending : (x : Hold) → is_unmade x ≡ false → not (is_hold machine.Pending x) ≡ true
      not_pending machine.Pending e = cc
      not_pending machine.NotHeld e = refl
      not_pending machine.Made e = refl
      not_pending machine.OpenAsI e = refl
      not_pending machine.ClosingAsI e = refl
      not_pending machine.Taken e = refl
      not_pending machine.OpenAsR e = refl
      not_pending machine.ClosingAsR e = refl

  -- none is sent but at a Stop
  quiet_order : (o : ConnOrder) → is_order machine.SendsDpr o ≡ false →
      (is_order machine.SendsSubmit o ≡ true → is_submit_event (of_event e) ≡ true) →
      Quiet (said_for p (of_event e) h o)
  quiet_order machine.SendsDpr no_dpr submit = cc
  quiet_order machine.Connects no_dpr submit = refl
  quiet_order machine.Closes no_dpr submit = refl
  quiet_order machine.SendsCer no_dpr submit = one_quiet _ (cer_asks p.config.node p.standing.next)
  quiet_order machine.SendsCea no_dpr submit =
      one_quiet _ (answer_asks (built_cea p.config.node (cer_answered p.standing.waiting h) success None) refl)
  quiet_order machine.SendsRefusal no_dpr submit = one_quiet _ (refusal_asks p.config.node (header_of h) (fault_in h))
  quiet_order machine.SendsDwr no_dpr submit = one_quiet _ (dwr_asks p.config.node p.standing.next)
  quiet_order machine.SendsDwa no_dpr submit =
      one_quiet _ (answer_asks (built_answer p.config.node (header_of h) success None) refl)
  quiet_order machine.SendsDpa no_dpr submit =
      one_quiet _ (answer_asks (built_answer p.config.node (header_of h) success None) refl)
  quiet_order machine.SendsSubmit no_dpr submit = one_quiet _ (submits_none p h e turn.hears (submit refl))

  quiet_orders : (os : List ConnOrder) → has_order machine.SendsDpr os ≡ false →
      (has_order machine.SendsSubmit os ≡ true → is_submit_event (of_event e) ≡ true) →
      Quiet (all_said p (of_event e) h os)
  quiet_orders [] no_dpr submit = refl
  quiet_orders (o ∷ os) no_dpr submit =
      let parts = or_none (is_order machine.SendsDpr o) (has_order machine.SendsDpr os) no_dpr in
      none_either (said_for p (of_event e) h o) (all_said p (of_event e) h os)
      (quiet_order o parts.0 (λ is. submit (ap (λ b. b || has_order machine.SendsSubmit os) is)))
      (quiet_orders os parts.1 (λ is. submit (or_second (is_order machine.SendsSubmit o) _ is)))

  submit_there : is_submit kk ≡ true → is_submit_event (of_event e) ≡ true
  submit_there is = submit_event c h e is

  says : list_any octet_requests.asks_end sent ≡ true → IsEnding octet_requests next after
  says asked =
      let said = and_parts (not (has_order machine.SendsDpr orders) || _) _ well.says in
      elim (cases_Bool (has_order machine.SendsDpr orders)) [
        | inl ordered ↦
            let a = and_parts (is_stop kk) _ (if_is (has_order machine.SendsDpr orders) _ said.0 ordered) in
            let b = and_parts (is_open_hold before) (is_closing_hold after) a.1 in
            record { closing = b.1; number = p.standing.next; awaited = dpa_new b.0 b.1 a.0 }
        | inr none ↦ absurd (not_both _ asked (quiet_orders orders none (λ is.
            submit_there (if_is (has_order machine.SendsSubmit orders) (is_submit kk) said.1 is))))
      ]

  pub step_matches : MatchesOn octet_requests p next before after (concern_by e (conn c)) (heard_on c e) sent
  step_matches =
      record {
        asks = λ pends ack made. asks_cea pends made;
        awaits = still_awaits;
        rests = rests;
        takes = takes;
        owes = owes;
        ends = ends;
        stays = stays;
        ended = ended;
        answers = λ y k heard made dpr. dpr_spoken y k h refl heard made dpr (came y heard).spoken;
        says = says;
      }
