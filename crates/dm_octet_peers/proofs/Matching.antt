-- Peers over octets match their answers: what a step does to a connection that it doesn't close.
use Rattle.std.proofs.Common.{◌≡◌, ℕ, ◌==◌, Bool, true, false, not, ◌&&◌, ◌||◌, nat_eq, if◌then◌else◌}
use Rattle.std.proofs.Common.{Option, None, Some, List, [], ◌∷◌, refl, sym, ap, subst, ◌∙◌, arith}
use Rattle.std.proofs.lemmas.Bool.{and_parts, eqb-true}
use Rattle.std.proofs.lemmas.Bool.Decides.{nat_tests}
use Rattle.dm_wire.specs.declared.message.Header.{Header}
use Rattle.dm_wire.specs.declared.message.Message.{Message}
use Rattle.dm_wire.specs.Whole.{message_in}
use Rattle.dm_base.specs.Codes.{capabilities_exchange}
use Rattle.dm_machine.specs.declared.inputs.Input.TheVariants as input
use Rattle.dm_machine.specs.declared.state_name.State.{State}
use Rattle.dm_machine.specs.Awaiting.{awaits_dpa, number_after}
use Rattle.dm_machine.specs.Connection.{Hold, ConnOrder, hold_of, concern_of}
use Rattle.dm_machine.specs.Connection as machine
use Rattle.dm_machine.specs.Openings.{is_hold}
use Rattle.dm_machine.specs.Ordered.{OrdersAreToldApart}
use Rattle.dm_machine.specs.Upward.{is_open_hold}
use Rattle.dm_machine.specs.Moves.{is_open}
use Rattle.dm_peer.specs.declared.peer.Peer.{Peer}
use Rattle.dm_peer.specs.Events as told
use Rattle.dm_peer.specs.Said.{Heard, heard_in, word_heard}
use Rattle.dm_peer.specs.Acts.{input_of, is_made, is_unread}
use Rattle.dm_peer.specs.Cases.{Hears, unread, no_message, message, bare}
use Rattle.dm_two_peers.specs.Machine.{conn}
use Rattle.dm_two_peers.specs.Machine as two
use Rattle.dm_two_peers.specs.Peers.{Event, StartEvent, StopEvent, TimeoutEvent, TickEvent, AckEvent, NackEvent, GoneEvent, SubmitEvent, ArrivedEvent, concern_by}
use Rattle.dm_two_peers.specs.Delivery.{is_closing_hold}
use Rattle.dm_two_peers.specs.Requests.{heard_on}
use Rattle.dm_octet_peers.specs.Octets.{of_event}
use Rattle.dm_octet_peers.specs.Matching.{has_fit, is_numbered_so, waiting_number}
use Rattle.dm_octet_peers.proofs.MatchingTable.{is_ack, is_start, is_stop, brings_word, is_silent, just_one}
use Rattle.dm_octet_peers.proofs.MatchingStates.{is_state_for, is_stop_input, same}

pub if_is : (a b : Bool) → (not a || b) ≡ true → a ≡ true → b ≡ true
if_is true b h e = h
if_is false b h e = cc

pub both : (a b : Bool) → a ≡ true → b ≡ true → (a && b) ≡ true
both true b h g = g
both false b h g = cc

pub not_is : (b : Bool) → not b ≡ true → b ≡ false
not_is true h = cc
not_is false h = refl

pub not_both : (b : Bool) → b ≡ true → b ≡ false → ⊥
not_both b e f = cc

pub self : (n : ℕ) → (n == n) ≡ true
self n = grind (arith, nat_tests)

-- holds, and lists of orders
pub made_by : (h : Hold) → is_hold machine.Made h ≡ true → h ≡ machine.Made
made_by machine.Made e = refl
made_by _ e = cc

pub taken_by : (h : Hold) → is_hold machine.Taken h ≡ true → h ≡ machine.Taken
taken_by machine.Taken e = refl
taken_by _ e = cc

pub unheld_by : (h : Hold) → is_hold machine.NotHeld h ≡ true → h ≡ machine.NotHeld
unheld_by machine.NotHeld e = refl
unheld_by _ e = cc

pub pending_by : (h : Hold) → is_hold machine.Pending h ≡ true → h ≡ machine.Pending
pending_by machine.Pending e = refl
pending_by _ e = cc

pub silent_by : (os : List ConnOrder) → is_silent os ≡ true → os ≡ []
silent_by [] e = refl
silent_by (o ∷ os) e = cc

pub one_by : OrdersAreToldApart → (o : ConnOrder) (os : List ConnOrder) → just_one o os ≡ true → os ≡ o ∷ []
one_by apart o [] e = cc
one_by apart o (q ∷ []) e = ap (λ x. x ∷ []) (sym (apart o q e))
one_by apart o (q ∷ z ∷ os) e = cc

pub closing_state : (h : Hold) (s : State) → is_closing_hold h ≡ true → is_state_for h s ≡ true → awaits_dpa s ≡ true
closing_state machine.ClosingAsI s e f = f
closing_state machine.ClosingAsR s e f = f
closing_state _ s e f = cc

pub open_state : (h : Hold) (s : State) → is_open_hold h ≡ true → is_state_for h s ≡ true →
    (is_open s && not (awaits_dpa s)) ≡ true
open_state machine.OpenAsI s e f = f
open_state machine.OpenAsR s e f = f
open_state _ s e f = cc

-- numbers
pub new_number : (a b : Bool) (n : ℕ) (old : Option ℕ) → a ≡ true → b ≡ true → number_after a b n old ≡ Some n
new_number true true n old e f = refl
new_number true false n old e f = cc
new_number false b n old e f = cc

pub old_number : (a b : Bool) (n : ℕ) (old : Option ℕ) → a ≡ true → b ≡ false → number_after a b n old ≡ old
old_number true false n old e f = refl
old_number true true n old e f = cc
old_number false b n old e f = cc

pub same_yes : (a b : Bool) → same a b ≡ true → a ≡ true → b ≡ true
same_yes true b h e = h
same_yes false b h e = cc

pub same_no : (a b : Bool) → same a b ≡ true → a ≡ false → b ≡ false
same_no true b h e = cc
same_no false b h e = not_is b h

-- what is heard of a message that comes on the link
pub data Spoken (p : Peer) (y : List ℕ) (before : Hold) : Option Heard → Type 0 where
  deaf : is_made before ≡ false → Spoken p y before None
  wordless : message_in y ≡ None → Spoken p y before None
  speaks : (m : Message) → message_in y ≡ Some m → Spoken p y before (Some (heard_in p.config m))

deaf_unmade : (s : State) (h : Hold) → is_unread s h ≡ true → is_made h ≡ false
deaf_unmade s machine.NotHeld e = refl
deaf_unmade s machine.Pending e = refl
deaf_unmade s _ e = cc

spoken_by : (p : Peer) (c : ℕ) (y : List ℕ) (h : Option Heard) → Hears p (told.Arrived (conn c) y) h →
    Spoken p y (hold_of p.standing.core (conn c)) h
spoken_by p c y h (unread d s is) = deaf (deaf_unmade p.standing.core.state (hold_of p.standing.core (conn c)) is)
spoken_by p c y h (no_message d s is none) = wordless none
spoken_by p c y h (message d s m is there kept) = speaks m there
spoken_by p c y h (bare e b) = cc

pub record Came (p : Peer) (e : Event (List ℕ)) (h : Option Heard) (c : ℕ) (y : List ℕ) : Type 0 where
  pub concern : concern_of (input_of (of_event e) h) (conn c) ≡ machine.HeardOnIt (word_heard h)
  pub enters : input_of (of_event e) h ≡ input.Heard (conn c) (word_heard h)
  pub spoken : Spoken p y (hold_of p.standing.core (conn c)) h

pub came_of : (p : Peer) (c : ℕ) (h : Option Heard) (y : List ℕ) (e : Event (List ℕ)) → Hears p (of_event e) h →
    heard_on c e ≡ Some y → Came p e h c y
came_of p c h y (ArrivedEvent d s) hears is = by_test (d.0 == c) refl is
  where
    by_test : (b : Bool) → (d.0 == c) ≡ b → (if b then Some s else None) ≡ Some y → Came p (ArrivedEvent d s) h c y
    by_test false named is = cc
    by_test true named is =
        let link : d ≡ conn c = ap conn (eqb-true d.0 c named) in
        let same : s ≡ y = cc is in
        record {
          concern = ap (λ b. machine.if_named b (machine.HeardOnIt (word_heard h))) named;
          enters = ap (λ z. input.Heard z (word_heard h)) link;
          spoken = spoken_by p c y h (subst (λ z. Hears p (told.Arrived z y) h) link
              (subst (λ z. Hears p (told.Arrived d z) h) same hears));
        }
came_of p c h y (StartEvent d) hears is = cc
came_of p c h y (StopEvent cause) hears is = cc
came_of p c h y TimeoutEvent hears is = cc
came_of p c h y TickEvent hears is = cc
came_of p c h y (AckEvent d) hears is = cc
came_of p c h y (NackEvent d) hears is = cc
came_of p c h y (GoneEvent d) hears is = cc
came_of p c h y (SubmitEvent s) hears is = cc

calm_named : (b : Bool) (k : machine.Concern) → brings_word k ≡ false → brings_word (machine.if_named b k) ≡ true → ⊥
calm_named true k f e = cc
calm_named false k f e = cc

pub word_there : (c : ℕ) (h : Option Heard) (e : Event (List ℕ)) →
    brings_word (concern_of (input_of (of_event e) h) (conn c)) ≡ true → (y : List ℕ) × (heard_on c e ≡ Some y)
word_there c h (ArrivedEvent d s) is = by_test (d.0 == c) is
  where
    by_test : (b : Bool) → brings_word (machine.if_named b (machine.HeardOnIt (word_heard h))) ≡ true →
        (y : List ℕ) × ((if b then Some s else None) ≡ Some y)
    by_test true is = (s, refl)
    by_test false is = cc
word_there c h (StartEvent d) is = absurd (calm_named (d.0 == c) machine.StartsIt refl is)
word_there c h (StopEvent cause) is = cc
word_there c h TimeoutEvent is = cc
word_there c h TickEvent is = cc
word_there c h (AckEvent d) is = absurd (calm_named (d.0 == c) machine.AcksIt refl is)
word_there c h (NackEvent d) is = absurd (calm_named (d.0 == c) machine.NacksIt refl is)
word_there c h (GoneEvent d) is = absurd (calm_named (d.0 == c) machine.EndsIt refl is)
word_there c h (SubmitEvent s) is = cc

no_ack : (b : Bool) (k : machine.Concern) → is_ack k ≡ false → is_ack (machine.if_named b k) ≡ true → ⊥
no_ack true k f e = cc
no_ack false k f e = cc

pub ack_there : (c : ℕ) (h : Option Heard) (e : Event (List ℕ)) →
    is_ack (concern_of (input_of (of_event e) h) (conn c)) ≡ true → concern_by e (conn c) ≡ two.MakesLink
ack_there c h (AckEvent d) is = by_test (d.0 == c) is
  where
    by_test : (b : Bool) → is_ack (machine.if_named b machine.AcksIt) ≡ true →
        (if b then two.MakesLink else two.Elsewhere) ≡ two.MakesLink
    by_test true is = refl
    by_test false is = cc
ack_there c h (StartEvent d) is = absurd (no_ack (d.0 == c) machine.StartsIt refl is)
ack_there c h (StopEvent cause) is = cc
ack_there c h TimeoutEvent is = cc
ack_there c h TickEvent is = cc
ack_there c h (NackEvent d) is = absurd (no_ack (d.0 == c) machine.NacksIt refl is)
ack_there c h (GoneEvent d) is = absurd (no_ack (d.0 == c) machine.EndsIt refl is)
ack_there c h (SubmitEvent s) is = cc
ack_there c h (ArrivedEvent d s) is = absurd (no_ack (d.0 == c) (machine.HeardOnIt (word_heard h)) refl is)

no_start : (b : Bool) (k : machine.Concern) → is_start k ≡ false → is_start (machine.if_named b k) ≡ true → ⊥
no_start true k f e = cc
no_start false k f e = cc

pub start_there : (c : ℕ) (h : Option Heard) (e : Event (List ℕ)) →
    is_start (concern_of (input_of (of_event e) h) (conn c)) ≡ true → concern_by e (conn c) ≡ two.StartsLink
start_there c h (StartEvent d) is = by_test (d.0 == c) is
  where
    by_test : (b : Bool) → is_start (machine.if_named b machine.StartsIt) ≡ true →
        (if b then two.StartsLink else two.Elsewhere) ≡ two.StartsLink
    by_test true is = refl
    by_test false is = cc
start_there c h (AckEvent d) is = absurd (no_start (d.0 == c) machine.AcksIt refl is)
start_there c h (StopEvent cause) is = cc
start_there c h TimeoutEvent is = cc
start_there c h TickEvent is = cc
start_there c h (NackEvent d) is = absurd (no_start (d.0 == c) machine.NacksIt refl is)
start_there c h (GoneEvent d) is = absurd (no_start (d.0 == c) machine.EndsIt refl is)
start_there c h (SubmitEvent s) is = cc
start_there c h (ArrivedEvent d s) is = absurd (no_start (d.0 == c) (machine.HeardOnIt (word_heard h)) refl is)

no_stop : (b : Bool) (k : machine.Concern) → is_stop k ≡ false → is_stop (machine.if_named b k) ≡ true → ⊥
no_stop true k f e = cc
no_stop false k f e = cc

pub stop_there : (c : ℕ) (h : Option Heard) (e : Event (List ℕ)) →
    is_stop (concern_of (input_of (of_event e) h) (conn c)) ≡ true → is_stop_input (input_of (of_event e) h) ≡ true
stop_there c h (StopEvent cause) is = refl
stop_there c h (StartEvent d) is = absurd (no_stop (d.0 == c) machine.StartsIt refl is)
stop_there c h (AckEvent d) is = absurd (no_stop (d.0 == c) machine.AcksIt refl is)
stop_there c h TimeoutEvent is = cc
stop_there c h TickEvent is = cc
stop_there c h (NackEvent d) is = absurd (no_stop (d.0 == c) machine.NacksIt refl is)
stop_there c h (GoneEvent d) is = absurd (no_stop (d.0 == c) machine.EndsIt refl is)
stop_there c h (SubmitEvent s) is = cc
stop_there c h (ArrivedEvent d s) is = absurd (no_stop (d.0 == c) (machine.HeardOnIt (word_heard h)) refl is)

-- where a message comes it is no Stop
pub word_no_stop : (p : Peer) (c : ℕ) (h : Option Heard) (e : Event (List ℕ)) (y : List ℕ) → Came p e h c y →
    is_stop_input (input_of (of_event e) h) ≡ false
word_no_stop p c h e y came = ap is_stop_input came.enters

-- what is read of the message
abbrev passing : (Message → Bool) → Option Message → Bool
passing f o = elim o [ None ↦ false | Some z ↦ f z ]

pub spelled_passes : (f : Message → Bool) (y : List ℕ) (m : Message) → message_in y ≡ Some m →
    elim (message_in y) [ None ↦ false | Some z ↦ f z ] ≡ true → f m ≡ true
spelled_passes f y m is h =
    sym (ap (λ o. passing f o) is) ∙ h

pub spelled_none : (f : Message → Bool) (y : List ℕ) → message_in y ≡ None →
    elim (message_in y) [ None ↦ false | Some z ↦ f z ] ≡ true → ⊥
spelled_none f y is h =
    let none : passing f (message_in y) ≡ false = ap (λ o. passing f o) is in not_both (passing f (message_in y)) h none

pub record IsCerOf (n : ℕ) (h : Header) : Type 0 where
  pub fit : has_fit h ≡ true
  pub command : nat_eq h.command capabilities_exchange ≡ true
  pub number : h.hop_id ≡ n

pub cer_parts : (n : ℕ) (h : Header) → (has_fit h && is_numbered_so true capabilities_exchange n h) ≡ true → IsCerOf n h
cer_parts n h e =
    let a = and_parts (has_fit h) (is_numbered_so true capabilities_exchange n h) e in
    let b = and_parts (nat_eq h.hop_id n) (nat_eq h.command capabilities_exchange && h.request) a.1 in
    let c = and_parts (nat_eq h.command capabilities_exchange) h.request b.1 in
    record { fit = a.0; command = c.0; number = eqb-true h.hop_id n b.0 }

pub waits_number : (n : ℕ) (h : Header) → IsCerOf n h → waiting_number (Some h) ≡ Some n
waits_number n h is =
    ap (λ b. if b then Some h.hop_id else None)
    (both (has_fit h) (nat_eq h.command capabilities_exchange) is.fit is.command) ∙ ap Some is.number

-- the header that waits, by its number
pub waiting_parts : (o : Option Header) (n : ℕ) → waiting_number o ≡ Some n →
    (h : Header) × ((o ≡ Some h) × IsCerOf n h)
waiting_parts None n e = cc
waiting_parts (Some h) n e = by_test (has_fit h && nat_eq h.command capabilities_exchange) refl e
  where
    by_test : (b : Bool) → (has_fit h && nat_eq h.command capabilities_exchange) ≡ b →
        (if b then Some h.hop_id else None) ≡ Some n → (z : Header) × ((Some h ≡ Some z) × IsCerOf n z)
    by_test true is e =
        let parts = and_parts (has_fit h) (nat_eq h.command capabilities_exchange) is in
        let same : h.hop_id ≡ n = cc e in
        (h, (refl, record { fit = parts.0; command = parts.1; number = same }))
    by_test false is e = cc
