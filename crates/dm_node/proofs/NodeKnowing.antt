-- Whom neighbours met, place by place.
use Rattle.std.proofs.Common.{◌≡◌, ◌<◌, inl, inr, ℕ, zero, suc, Bool, true, false, cond, not, ◌&&◌, ◌==◌, nat_eq, true≢false}
use Rattle.std.proofs.Common.{Bor}
use Rattle.std.proofs.Common.{Option, None, Some, IsSome, IfSome, IfNone, is_some, List, [], ◌∷◌, ◌++◌, length, get_or, map, option_map}
use Rattle.std.proofs.Common.{refl, sym, ap, ◌∙◌, subst, arith}
use Rattle.std.specs.Prelude.{nat_lt, slice_get}
use Rattle.std.proofs.Math.ListN.{set}
use Rattle.std.proofs.Math.Path.{fun_ext}
use Rattle.std.proofs.lemmas.Bool.{true_from_ne_false, lt-ltb, le-ltb, and_parts, not-true}
use Rattle.std.proofs.lemmas.List.{map-append, map-set, length-map}
use Rattle.std.specs.Option.{option_flatten, option_copied}
use Rattle.dm_wire.specs.declared.message.Message.{Message}
use Rattle.dm_wire.specs.Whole.{message_in}
use Rattle.dm_base.specs.Codes.{capabilities_exchange}
use Rattle.dm_base.specs.declared.node.Node.{Node}
use Rattle.dm_history.specs.History.{new_peer}
use Rattle.dm_machine.specs.declared.connection.Conn.{Conn}
use Rattle.dm_machine.specs.declared.state_name.State.{State}
use Rattle.dm_machine.specs.declared.state_name.State.TheVariants.{Closed}
use Rattle.dm_machine.specs.Moves.{is_open}
use Rattle.dm_node.specs.Adding.{with_new}
use Rattle.dm_node.specs.Calling.{Caller, caller_in, caller_of, calling_host}
use Rattle.dm_node.specs.Emptying.{set_back}
use Rattle.dm_node.specs.Holding.{peer_at}
use Rattle.dm_node.specs.Policies.{Policy}
use Rattle.dm_node.specs.Strangers.{NodeMoves, NodeIsTold}
use Rattle.dm_node.specs.Telling.{Concerns, IsAddressed, IsStrangeCer, PeerIsTold, told_of}
use Rattle.dm_node.specs.declared.events.NodeEvent.{NodeEvent}
use Rattle.dm_node.specs.declared.events.NodeEvent.TheVariants as event
use Rattle.dm_peer.specs.declared.actions.Action.{Action}
use Rattle.dm_peer.specs.declared.peer.Peer.{Peer}
use Rattle.dm_peer.specs.Events.{PeerEvent, Arrived}
use Rattle.dm_slots.specs.Acquaintances.{Acquaintance, nobody, exchange_of, spells_exchange, is_exchange_to}
use Rattle.dm_slots.specs.Acquaintances.{met_waiting, known_by, known_after, known_at, known_if_any}
use Rattle.dm_node.specs.NodeKnown.{AreKnown, acquaintance_at, with_nobody, with_known, given_place, peer_state, MeetsAny, IsCopied}
use Rattle.dm_node.specs.NodeKnown.{KnownAfterOrder}
use Rattle.dm_node.specs.NodeOrders.{ShutsUnheld}
use Rattle.dm_node.specs.Neighbourhoods.{IsNeighbourhood}
use Rattle.dm_node.specs.NodeStates.{NodeState, NodeAnswer, concerned_in}
use Rattle.dm_node.proofs.Basics.{one_some, two_truths, there_mapped}
use Rattle.dm_node.proofs.Concerned.{one_is_concerned}
use Rattle.dm_node.proofs.Newcomers.{AreBehind, octets_behind, event_behind}
use Rattle.dm_node.proofs.Places.{nobody_behind}
use Rattle.dm_node.proofs.Taking.{told_set}

-- Places that are taken.

-- where somebody is put in for somebody, or nobody for nobody, the same are taken
same_set : {A : Type 0} (l : List (Option A)) (i : ℕ) (y : Option A) →
    is_some y ≡ is_some (option_flatten (slice_get l i)) → map is_some (set l i y) ≡ map is_some l
same_set [] i y same = refl
same_set (x ∷ xs) zero y same = ap (λ b. b ∷ map is_some xs) same
same_set (x ∷ xs) (suc i) y same = ap (λ l. is_some x ∷ l) (same_set xs i y same)

same_changed : {A : Type 0} (f : A → A) (l : List (Option A)) (i : ℕ) →
    map is_some (set l i (option_map f (option_flatten (slice_get l i)))) ≡ map is_some l
same_changed f l i = same_set l i _ (there_mapped f (option_flatten (slice_get l i)))

-- and where each is
pub same_each : {A : Type 0} (f : A → A) (l : List (Option A)) → map is_some (map (option_map f) l) ≡ map is_some l
same_each f [] = refl
same_each f (x ∷ xs) = ap (λ b. b ∷ map is_some (map (option_map f) xs)) (there_mapped f x)
    ∙ ap (λ l. is_some x ∷ l) (same_each f xs)

-- and where one is told something
told_there : (ps qs : List (Option Peer)) (i : ℕ) (e : PeerEvent) (actions : List Action) →
    PeerIsTold ps qs i e actions → map is_some qs ≡ map is_some ps
told_there ps qs i e actions h =
    ap (map is_some) (told_set ps qs i e actions h) ∙ same_set ps i (Some h.after) (sym (ap is_some h.was))

-- who is there has a number below how many places there are
below : (ps : List (Option Peer)) (i : ℕ) (p : Peer) → peer_at ps i ≡ Some p → i < length ps
below [] i p is = absurd (true≢false (sym (ap is_some is)))
below (x ∷ xs) zero p is = omega arith
below (x ∷ xs) (suc i) p is = let less = below xs i p is in omega (arith, less)

same_count : (ps : List (Option Peer)) (ks : List (Option Acquaintance)) → AreKnown ps ks → length ks ≡ length ps
same_count ps ks known = sym (length-map ks is_some) ∙ ap length known ∙ length-map ps is_some

-- its place is there
has_place : (ps : List (Option Peer)) (ks : List (Option Acquaintance)) (i : ℕ) (p : Peer) → AreKnown ps ks →
    peer_at ps i ≡ Some p → nat_lt i (length ks) ≡ true
has_place ps ks i p known is =
    let less = below ps i p is in
    let count = same_count ps ks known in
    lt-ltb i (length ks) (omega (arith, less, count))

pub placed : (ps : List (Option Peer)) (ks : List (Option Acquaintance)) (i : ℕ) (p : Peer) → AreKnown ps ks →
    peer_at ps i ≡ Some p → given_place i ks ≡ ks
placed ps ks i p known is = ap (λ b. cond b ks (with_nobody ks)) (has_place ps ks i p known is)

-- one that was taken in has a new one
placed_behind : (ps : List (Option Peer)) (ks : List (Option Acquaintance)) (i : ℕ) → AreKnown ps ks → i ≡ length ps →
    given_place i ks ≡ with_nobody ks
placed_behind ps ks i known last =
    let count = same_count ps ks known in
    ap (λ b. cond b ks (with_nobody ks)) (le-ltb i (length ks) (omega (arith, last, count)))

-- who is there has met somebody or nobody
some_at : {A : Type 0} (l : List (Option A)) (i : ℕ) →
    is_some (option_flatten (slice_get l i)) ≡ get_or (map is_some l) i false
some_at [] i = refl
some_at (x ∷ xs) zero = refl
some_at (x ∷ xs) (suc i) = some_at xs i

pub present_at : (ps : List (Option Peer)) (ks : List (Option Acquaintance)) (i : ℕ) → AreKnown ps ks →
    is_some (acquaintance_at ks i) ≡ is_some (peer_at ps i)
present_at ps ks i known = some_at ks i ∙ ap (λ l. get_or l i false) known ∙ sym (some_at ps i)

pub there_copied : (o : Option (Bor Acquaintance)) → is_some (option_copied o) ≡ is_some o
there_copied None = refl
there_copied (Some a) = refl

pub known_more : (ps : List (Option Peer)) (ks : List (Option Acquaintance)) (p : Peer) → AreKnown ps ks →
    AreKnown (ps ++ Some p ∷ []) (with_nobody ks)
known_more ps ks p known =
    map-append is_some ks (Some nobody ∷ []) ∙ ap (λ l. l ++ true ∷ []) known
    ∙ sym (map-append is_some ps (Some p ∷ []))

pub known_fewer : (ps qs : List (Option Peer)) (ks : List (Option Acquaintance)) (i : ℕ) → AreKnown ps ks →
    qs ≡ set ps i None → AreKnown qs (set ks i None)
known_fewer ps qs ks i known is =
    map-set is_some ks i None ∙ ap (λ l. set l i false) known ∙ sym (map-set is_some ps i None)
    ∙ sym (ap (map is_some) is)

pub known_back : (ps qs : List (Option Peer)) (ks : List (Option Acquaintance)) (i : ℕ) → AreKnown ps ks →
    qs ≡ set ps i (option_map set_back (peer_at ps i)) → AreKnown qs ks
known_back ps qs ks i known is = known ∙ sym (same_changed set_back ps i) ∙ sym (ap (map is_some) is)

pub known_all_back : (ps qs : List (Option Peer)) (ks : List (Option Acquaintance)) → AreKnown ps ks →
    qs ≡ map (option_map set_back) ps → AreKnown qs ks
known_all_back ps qs ks known is = known ∙ sym (same_each set_back ps) ∙ sym (ap (map is_some) is)

-- What a neighbour was told.

-- the state that was looked at is that of whom an event concerns, and Closed where it concerns nobody
pub record IsStateOf (concerns : ℕ → Type 0) (ps : List (Option Peer)) (state : State) : Type 0 where
  pub told : (i : ℕ) → concerns i → state ≡ peer_state (peer_at ps i)
  pub nobody : ((i : ℕ) → concerns i → ⊥) → state ≡ Closed

pub state_looked : (policy : Policy) (ps : List (Option Peer)) (e : NodeEvent) (who : Option ℕ) (state : State) →
    IsNeighbourhood ps → IfSome who (Concerns policy ps e) → IfNone who ((i : ℕ) → Concerns policy ps e i → ⊥) →
    state ≡ peer_state (concerned_in ps who) → IsStateOf (Concerns policy ps e) ps state
state_looked policy ps e None state apart concerned nobody is = record {
  told = λ i one. absurd (nobody i one);
  nobody = λ none. is;
}
state_looked policy ps e (Some k) state apart concerned nobody is = record {
  told = λ i one. is ∙ ap (λ j. peer_state (peer_at ps j)) (one_is_concerned policy ps e k i apart concerned one);
  nobody = λ none. absurd (none k concerned);
}

-- the peer behind octets, and the state in which it was told them, which is the one that was looked at
record IsBehind (ps qs : List (Option Peer)) (i : ℕ) (state : State) : Type 0 where
  after : Peer
  is : peer_at qs i ≡ Some after
  begun : state ≡ peer_state (peer_at ps i)

-- The copy of a message.

-- no octets are no CER or CEA
pub nothing_spelled : spells_exchange [] ≡ false
unfolding message_in
nothing_spelled = refl

none_copied : (b : Bool) → (b && spells_exchange []) ≡ true → ⊥
none_copied true e = true≢false (sym e ∙ nothing_spelled)
none_copied false e = true≢false (sym e)

some : (x : ℕ) (m : List ℕ) → (length (x ∷ m) == 0) ≡ false
some x m = grind (arith)

-- what is known behind the copy is what is known behind the message
copied : (is : Bool) (m : List ℕ) (c : Conn) (state : State) (q : Peer) (a : Acquaintance) →
    is_exchange_to state m ≡ is → known_if_any (cond is m []) c state q a ≡ known_at c state q m a
copied true [] c state q a e = absurd (none_copied (not (is_open state)) e)
copied true (x ∷ m) c state q a e =
    ap (λ b. cond b (known_after state q a) (known_by c state q (x ∷ m) a)) (some x m)
    ∙ sym (ap (λ b. cond b (known_by c state q (x ∷ m) a) (known_after state q a)) e)
copied false m c state q a e = sym (ap (λ b. cond b (known_by c state q m a) (known_after state q a)) e)

met_copied : (octets exchange : List ℕ) (c : Conn) (before state : State) (q : Peer) →
    exchange ≡ cond (is_exchange_to before octets) octets [] → before ≡ state → (a : Acquaintance) →
    known_if_any exchange c before q a ≡ known_at c state q octets a
met_copied octets exchange c before state q is same a =
    ap (λ l. known_if_any l c before q a) is ∙ copied (is_exchange_to before octets) octets c before q a refl
    ∙ ap (λ s. known_at c s q octets a) same

-- and the places are those of the neighbours behind an event
known_behind : (known : State → Peer → Acquaintance → Acquaintance) (ps qs : List (Option Peer)) (who : Option ℕ)
    (e : PeerEvent) (actions : List Action) (ks ls : List (Option Acquaintance)) → AreKnown ps ks →
    AreBehind ps qs who e actions → MeetsAny known who ps qs ks ls → AreKnown qs ls
known_behind known ps qs None e actions ks ls there stayed same =
    ap (map is_some) same ∙ there ∙ sym (ap (map is_some) stayed)
known_behind known ps qs (Some i) e actions ks ls there (inl told) met =
    let change = known (peer_state (peer_at ps i)) met.after in
    ap (map is_some) (met.changed ∙ ap (with_known i change) (placed ps ks i told.before there told.was))
    ∙ same_changed change ks i ∙ there ∙ sym (told_there ps qs i e actions told)
known_behind known ps qs (Some i) e actions ks ls there (inr (k, here, told)) met =
    let change = known (peer_state (peer_at ps i)) met.after in
    ap (map is_some) (met.changed ∙ ap (with_known i change) (placed_behind ps ks i there here))
    ∙ same_changed change (with_nobody ks) i ∙ known_more ps ks (new_peer k k.first_id) there
    ∙ sym (told_there (with_new ps k) qs i e actions told)

pub known_moved : (known : State → Peer → Acquaintance → Acquaintance) (policy : Policy) (c : Conn) (octets : List ℕ)
    (n : Node) (ps qs : List (Option Peer)) (who : Option ℕ) (actions : List Action)
    (ks ls : List (Option Acquaintance)) → AreKnown ps ks → NodeMoves policy c octets n ps who actions qs →
    MeetsAny known who ps qs ks ls → AreKnown qs ls
known_moved known policy c octets n ps qs who actions ks ls there moved met =
    known_behind known ps qs who (Arrived c octets) actions ks ls there
    (octets_behind policy c octets n ps qs who actions moved) met

pub known_told : (known : State → Peer → Acquaintance → Acquaintance) (policy : Policy) (e : NodeEvent) (n : Node)
    (ps qs : List (Option Peer)) (who : Option ℕ) (actions : List Action) (ks ls : List (Option Acquaintance)) →
    (IsStrangeCer e → ⊥) → AreKnown ps ks → NodeIsTold policy e n ps who actions qs →
    MeetsAny known who ps qs ks ls → AreKnown qs ls
known_told known policy e n ps qs who actions ks ls calm there moved met =
    known_behind known ps qs who (told_of e) actions ks ls there (event_behind policy e n ps qs who actions moved) met

-- what is copied is an exchange, and concerns nobody who is open
pub is_copied : (policy : Policy) (c : Conn) (octets : List ℕ) (ps : List (Option Peer)) (before : State) →
    IsStateOf (IsAddressed policy ps c octets) ps before → is_exchange_to before octets ≡ true →
    IsCopied policy c octets ps
is_copied policy c octets ps before looked is =
    let parts = and_parts (not (is_open before)) (spells_exchange octets) is in
    record {
      exchange = parts.1;
      unopened = λ i concerned. sym (ap is_open (looked.told i concerned)) ∙ not-true (is_open before) parts.0;
    }

-- An open neighbour meets nobody anew.

mapped_so : {A : Type 0} (f : A → A) (x : Option A) → ((a : A) → f a ≡ a) → option_map f x ≡ x
mapped_so f None same = refl
mapped_so f (Some x) same = ap Some (same x)

stays_at : {A : Type 0} (f : A → A) (l : List (Option A)) (i : ℕ) → ((a : A) → f a ≡ a) →
    set l i (option_map f (option_flatten (slice_get l i))) ≡ l
stays_at f [] i same = refl
stays_at f (x ∷ xs) zero same = ap (λ y. y ∷ xs) (mapped_so f x same)
stays_at f (x ∷ xs) (suc i) same = ap (λ l. x ∷ l) (stays_at f xs i same)

pub open_stays_after : (before : State) (q : Peer) (i : ℕ) (ks : List (Option Acquaintance)) → is_open before ≡ true →
    ks ≡ with_known i (known_after before q) ks
open_stays_after before q i ks stood =
    sym (stays_at (known_after before q) ks i
    (λ a. ap (λ b. cond (not b && is_open q.standing.core.state) (met_waiting a.waiting a) a) stood))

-- who calls sends a CER
called_in : (o : Option Message) (call : Caller) → caller_in o ≡ Some call → is_some (exchange_of o) ≡ true
called_in None call is = absurd (true≢false (sym (ap is_some is)))
called_in (Some m) call is =
    by (nat_eq m.header.command capabilities_exchange) m.header.request
    (option_map (λ host. (m.header, host)) (calling_host m.avps)) is
  where
    by : (b r : Bool) (o : Option Caller) → cond (b && r) o None ≡ Some call → is_some (cond b (Some m) None) ≡ true
    by true r o e = refl
    by false r o e = absurd (true≢false (sym (ap is_some e)))

-- Octets of connection c, told by the policy.
module _ (policy : Policy) (c : Conn) (octets : List ℕ) (n : Node) (ps qs : List (Option Peer)) where
  moved_behind : (i : ℕ) (actions : List Action) (state : State) → IsStateOf (IsAddressed policy ps c octets) ps state →
      NodeMoves policy c octets n ps (Some i) actions qs → IsBehind ps qs i state
  moved_behind i actions state looked (inl (concerned, told)) =
      record { after = told.after; is = told.is; begun = looked.told i concerned }
  moved_behind i actions state looked (inr (config, permitted, joins)) = record {
    after = joins.told.after;
    is = joins.told.is;
    begun = looked.nobody permitted.unknown.nobody
        ∙ sym (ap peer_state (ap (peer_at ps) joins.number ∙ nobody_behind ps));
  }

  -- whom they met
  pub meets : (who : Option ℕ) (actions : List Action) (ks js ls : List (Option Acquaintance)) (before : State)
      (exchange : List ℕ) → IsStateOf (IsAddressed policy ps c octets) ps before →
      exchange ≡ cond (is_exchange_to before octets) octets [] → js ≡ ks →
      NodeMoves policy c octets n ps who actions qs →
      ((i : ℕ) (q : Peer) → who ≡ Some i → peer_at qs i ≡ Some q →
      ls ≡ with_known i (known_if_any exchange c before q) (given_place i js)) → (who ≡ None → ls ≡ js) →
      MeetsAny (λ state q a. known_at c state q octets a) who ps qs ks ls
  meets None actions ks js ls before exchange looked is same moved met unmet = unmet refl ∙ same
  meets (Some i) actions ks js ls before exchange looked is same moved met unmet =
      let behind = moved_behind i actions before looked moved in
      let q = behind.after in
      let state = peer_state (peer_at ps i) in
      let known : (λ a. known_if_any exchange c before q a) ≡ (λ a. known_at c state q octets a) =
      fun_ext (λ a. met_copied octets exchange c before state q is behind.begun a) in
      record {
        after = q;
        is = behind.is;
        changed = met i q refl behind.is ∙ ap (λ f. with_known i f (given_place i js)) known
            ∙ ap (λ l. with_known i (λ a. known_at c state q octets a) (given_place i l)) same;
      }

  -- there is room for a place more where one is taken in
  pub room_for : (who : Option ℕ) (actions : List Action) (ks : List (Option Acquaintance)) (before : State) (i : ℕ) →
      AreKnown ps ks → IsStateOf (IsAddressed policy ps c octets) ps before →
      NodeMoves policy c octets n ps who actions qs → who ≡ Some i → nat_lt i (length ks) ≡ false →
      is_exchange_to before octets ≡ true
  room_for None actions ks before i there looked moved is none = absurd (true≢false (sym (ap is_some is)))
  room_for (Some j) actions ks before i there looked (inl (concerned, told)) is none =
      absurd (true≢false (sym (has_place ps ks j told.before there told.was)
      ∙ ap (λ k. nat_lt k (length ks)) (one_some j i is) ∙ none))
  room_for (Some j) actions ks before i there looked (inr (config, permitted, joins)) is none =
      let stranger = permitted.unknown in
      ap (λ s. is_exchange_to s octets) (looked.nobody stranger.nobody)
      ∙ called_in (message_in octets) stranger.call stranger.calls

  -- where it is open that they are told, what is known of it stays
  pub open_meets : (who : Option ℕ) (actions : List Action) (ks : List (Option Acquaintance)) (before : State) →
      AreKnown ps ks → IsStateOf (IsAddressed policy ps c octets) ps before →
      NodeMoves policy c octets n ps who actions qs → is_open before ≡ true →
      MeetsAny (λ state q a. known_at c state q octets a) who ps qs ks ks
  open_meets who actions ks before there looked moved stood =
      meets who actions ks ks ks before [] looked
      (sym (ap (λ b. cond (not b && spells_exchange octets) octets []) stood)) refl moved
      (λ i q is behind. open_stays_after before q i ks stood
      ∙ sym (ap (λ b. with_known i (known_after before q) (cond b ks (with_nobody ks))) (place i is))) (λ none. refl)
    where
      place : (i : ℕ) → who ≡ Some i → nat_lt i (length ks) ≡ true
      place i is =
          true_from_ne_false (nat_lt i (length ks)) (λ e.
          let copied = room_for who actions ks before i there looked moved is e in
          two_truths (is_open before) stood
          (not-true (is_open before) (and_parts (not (is_open before)) (spells_exchange octets) copied).0))

-- no octets are nobody's CER
calls_none : caller_of [] ≡ None
unfolding message_in
calls_none = refl

pub none_calls : IsSome (caller_of []) → ⊥
none_calls called = true≢false (sym (subst (λ o. IsSome o) calls_none called))

-- What brings no message of a stranger.

pub told_event : (policy : Policy) (e : NodeEvent) (n : Node) (ps qs : List (Option Peer)) (i : ℕ) (actions : List Action) →
    (IsStrangeCer e → ⊥) → NodeIsTold policy e n ps (Some i) actions qs →
    Concerns policy ps e i × PeerIsTold ps qs i (told_of e) actions
told_event policy (event.Arrived c octets) n ps qs i actions calm (inl told) = told
told_event policy (event.Arrived c octets) n ps qs i actions calm (inr (config, permitted, joins)) =
    absurd (calm (subst (λ o. IsSome o) (sym permitted.unknown.calls) refl))
told_event policy e n ps qs i actions calm told = told

pub untold_event : (policy : Policy) (e : NodeEvent) (n : Node) (ps qs : List (Option Peer)) (actions : List Action) →
    NodeIsTold policy e n ps None actions qs → qs ≡ ps
untold_event policy e n ps qs actions m = event_behind policy e n ps qs None actions m

-- whom such an event met
pub meets_after : (policy : Policy) (e : NodeEvent) (n : Node) (ps qs : List (Option Peer)) (who : Option ℕ)
    (actions : List Action) (ks ls : List (Option Acquaintance)) (before : State) → (IsStrangeCer e → ⊥) →
    IsStateOf (Concerns policy ps e) ps before → AreKnown ps ks → NodeIsTold policy e n ps who actions qs →
    ((i : ℕ) (q : Peer) → who ≡ Some i → peer_at qs i ≡ Some q → ls ≡ with_known i (known_after before q) ks) →
    (who ≡ None → ls ≡ ks) → MeetsAny known_after who ps qs ks ls
meets_after policy e n ps qs None actions ks ls before calm looked there moved met unmet = unmet refl
meets_after policy e n ps qs (Some i) actions ks ls before calm looked there moved met unmet =
    let told = told_event policy e n ps qs i actions calm moved in
    let q = told.1.after in
    record {
      after = q;
      is = told.1.is;
      changed = met i q refl told.1.is
          ∙ ap (λ s. with_known i (known_after s q) ks) (looked.told i told.0)
          ∙ sym (ap (with_known i (known_after (peer_state (peer_at ps i)) q))
          (placed ps ks i told.1.before there told.1.was));
    }

-- What is done behind it.

-- whom it met stays known where the neighbours stay behind it
pub after_moved : (asks : Option NodeAnswer) (s m t : NodeState) (ks ls js : List (Option Acquaintance)) →
    t.peers ≡ m.peers → js ≡ ls → KnownAfterOrder asks s m ks ls → KnownAfterOrder asks s t ks js
after_moved None s m t ks ls js same is met = is ∙ met
after_moved (Some answer) s m t ks ls js same is met =
    subst (λ l. MeetsAny known_after answer.neighbour s.peers t.peers ks l) (sym is)
    (subst (λ l. MeetsAny known_after answer.neighbour s.peers l ks ls) (sym same) met)

-- and where they stayed before it
pub after_opened : (asks : Option NodeAnswer) (s o t : NodeState) (ks js ls : List (Option Acquaintance)) →
    o.peers ≡ s.peers → js ≡ ks → KnownAfterOrder asks o t js ls → KnownAfterOrder asks s t ks ls
after_opened None s o t ks js ls same is met = met ∙ is
after_opened (Some answer) s o t ks js ls same is met =
    subst (λ l. MeetsAny known_after answer.neighbour s.peers t.peers l ls) is
    (subst (λ l. MeetsAny known_after answer.neighbour l t.peers js ls) same met)

-- a connection that is shut leaves the neighbours as they are
pub unheld_peers : (c : Conn) (s t : NodeState) → ShutsUnheld c s t → t.peers ≡ s.peers
unheld_peers c s t (inl (i, held, same)) = ap (λ (v : NodeState). v.peers) same
unheld_peers c s t (inr (free, is)) = ap (λ (v : NodeState). v.peers) is
