-- What each open neighbour holds takes longer messages, whatever is done.
use Rattle.std.proofs.Common.{◌≡◌, ◌&&◌, ◌||◌, ℕ, Bool, true, false, true≢false, cond, nat_eq, Option, None, Some, List, ◌++◌, refl, sym, ap, ◌∙◌, subst, inl, inr}
use Rattle.std.proofs.Math.ListN.{set}
use Rattle.std.proofs.Math.Path.{fun_ext}
use Rattle.std.proofs.lemmas.Bool.{cases_eq, eqb-true, false_from_ne_true}
use Rattle.std.specs.Option.{option_map}
use Rattle.dm_history.specs.History.{new_peer}
use Rattle.dm_machine.specs.declared.connection.Conn.{Conn}
use Rattle.dm_machine.specs.Moves.{is_open}
use Rattle.dm_node.specs.Adding.{with_new}
use Rattle.dm_node.specs.Emptying.{set_back}
use Rattle.dm_node.specs.Holding.{peer_at, holds, holds_it, holds_at}
use Rattle.dm_base.specs.declared.node.Node.{Node}
use Rattle.dm_node.specs.NodeHeld.{is_open_with, AllHeldAreThere, AreKept, AreRaised, TakesUpTo}
use Rattle.dm_node.specs.NodeKnown.{peer_state}
use Rattle.dm_node.specs.NodeOrders.{left_by_peer}
use Rattle.dm_node.specs.NodeStates.{concerned_in, raised_for}
use Rattle.dm_node.specs.Owning.{has, one_held, IsOpenAsBefore, IsReowned}
use Rattle.dm_node.specs.declared.owners.Holding.{Holding}
use Rattle.dm_node.specs.Policies.{Policy}
use Rattle.dm_node.specs.Strangers.{NodeMoves, NodeIsTold}
use Rattle.dm_node.specs.Telling.{conn_of, told_of, IsFree, IsHolder, IsStrangeCer, PeerIsTold}
use Rattle.dm_node.specs.declared.events.NodeEvent.{NodeEvent}
use Rattle.dm_node.proofs.Basics.{one_some, two_truths}
use Rattle.dm_node.proofs.Closing.{CameOn, ClosesItsOwn}
use Rattle.dm_node.proofs.NodeKnowing.{told_event}
use Rattle.dm_node.proofs.NodeStaying.{raised_keeps}
use Rattle.dm_node.proofs.Owned.{has_initiated, on_is}
use Rattle.dm_node.proofs.Places.{grown_cases, set_cases}
use Rattle.dm_peer.specs.Events.{PeerEvent, Arrived}
use Rattle.dm_peer.specs.Places.{is_on}
use Rattle.dm_peer.specs.declared.actions.Action.{Action}
use Rattle.dm_peer.specs.declared.config.Config.{Config}
use Rattle.dm_peer.specs.declared.peer.Peer.{Peer}
use Rattle.dm_slots.specs.Intakes.{Intake, Intakes, is_there, is_conn_number, opened, taken_down, changed, with_intake, new_intake}
use Rattle.dm_slots.specs.Intakes.{fed_intake, unfed_intake, actions_close, left_by, raised_at, with_max}

both_are : (a b : Bool) → (a && b) ≡ true → (a ≡ true) × (b ≡ true)
both_are true b e = (refl, e)
both_are false b e = absurd (true≢false (sym e))

are_both : (a b : Bool) → a ≡ true → b ≡ true → (a && b) ≡ true
are_both true b first second = second
are_both false b first second = first

-- an open neighbour with the connection is open, and holds it
open_state : (c : Conn) (o : Option Peer) → is_open_with c o ≡ true → is_open (peer_state o) ≡ true
open_state c None stands = stands
open_state c (Some p) stands = (both_are (is_open p.standing.core.state) (holds c p) stands).0

pub open_holds : (c : Conn) (o : Option Peer) → is_open_with c o ≡ true → holds_it c o ≡ true
open_holds c None stands = stands
open_holds c (Some p) stands = (both_are (is_open p.standing.core.state) (holds c p) stands).1

open_with : (c : Conn) (o : Option Peer) → is_open (peer_state o) ≡ true → holds_it c o ≡ true → is_open_with c o ≡ true
open_with c None stands held = held
open_with c (Some p) stands held = are_both (is_open p.standing.core.state) (holds c p) stands held

-- what is changed of one connection, or goes, or takes longer messages
takes_less : (most : ℕ) (b : Bool) (x : Option Intake) → TakesUpTo most x → TakesUpTo most (cond b None x)
takes_less most true x takes = refl
takes_less most false x takes = takes

takes_changed : (most : ℕ) (change : Intake → Intake) (b : Bool) (x : Option Intake) →
    ((i : Intake) → (change i).max ≡ i.max) → TakesUpTo most x → TakesUpTo most (cond b (option_map change x) x)
takes_changed most change true None same takes = refl
takes_changed most change true (Some i) same takes = same i ∙ takes
takes_changed most change false x same takes = takes

takes_most : (most : ℕ) (x : Option Intake) → TakesUpTo most (option_map (with_max most) x)
takes_most most None = refl
takes_most most (Some i) = refl

taken_already : (most : ℕ) (x : Option Intake) → TakesUpTo most x → option_map (with_max most) x ≡ x
taken_already most None takes = refl
taken_already most (Some i) takes = ap (λ m. Some (with_max m i)) (sym takes)

broken_or_not : (b : Bool) (i : Intake) (l : List ℕ) → (cond b i (record i { octets = l })).max ≡ i.max
broken_or_not true i l = refl
broken_or_not false i l = refl

pub fed_same : (piece : List ℕ) (i : Intake) → (fed_intake piece i).max ≡ i.max
fed_same piece i = broken_or_not i.is_broken i (i.octets ++ piece)

pub unfed_same : (n : ℕ) (i : Intake) → (unfed_intake n i).max ≡ i.max
unfed_same n i = broken_or_not i.is_broken i _

pub raised_changed : (most : ℕ) (ps : List (Option Peer)) (c : ℕ) (change : Intake → Intake) (f : Intakes) →
    ((i : Intake) → (change i).max ≡ i.max) → AreRaised most ps f → AreRaised most ps (changed c change f)
raised_changed most ps c change f same raised i d stands =
    takes_changed most change (nat_eq c d.0) (f d.0) same (raised i d stands)

pub raised_with : (most : ℕ) (ps : List (Option Peer)) (c : ℕ) (i j : Intake) (f : Intakes) → f c ≡ Some i →
    j.max ≡ i.max → AreRaised most ps f → AreRaised most ps (with_intake c (Some j) f)
raised_with most ps c i j f there same raised k d stands = by (nat_eq c d.0) refl
  where
    by : (b : Bool) → nat_eq c d.0 ≡ b → TakesUpTo most (cond b (Some j) (f d.0))
    by true e = same ∙ subst (TakesUpTo most) (ap f (sym (eqb-true c d.0 e)) ∙ there) (raised k d stands)
    by false e = raised k d stands

pub raised_shut : (most : ℕ) (ps : List (Option Peer)) (c : ℕ) (f : Intakes) → AreRaised most ps f →
    AreRaised most ps (taken_down c f)
raised_shut most ps c f raised i d stands = takes_less most (nat_eq c d.0) (f d.0) (raised i d stands)

-- a connection more isn't held yet
opened_at : (most max c d : ℕ) (f : Intakes) → is_there d f ≡ true → TakesUpTo most (f d) → (there same : Bool) →
    is_there c f ≡ there → nat_eq c d ≡ same →
    TakesUpTo most (cond there f (λ e. cond (nat_eq c e) (Some (new_intake max)) (f e)) d)
opened_at most max c d f here takes true same e q = takes
opened_at most max c d f here takes false true e q =
    absurd (two_truths (is_there d f) here (ap (λ n. is_there n f) (sym (eqb-true c d q)) ∙ e))
opened_at most max c d f here takes false false e q =
    subst (λ b. TakesUpTo most (cond b (Some (new_intake max)) (f d))) (sym q) takes

pub raised_opened : (most max : ℕ) (ps : List (Option Peer)) (c : ℕ) (f : Intakes) → AllHeldAreThere ps f →
    AreRaised most ps f → AreRaised most ps (opened max c f)
raised_opened most max ps c f there raised i d stands =
    opened_at most max c d.0 f (there i d (open_holds d (peer_at ps i) stands)) (raised i d stands) (is_there c f)
    (nat_eq c d.0) refl refl

-- nor has a new neighbour a connection, or one that was set back
pub raised_added : (most : ℕ) (ps qs : List (Option Peer)) (k : Config) (f : Intakes) → qs ≡ with_new ps k →
    AreRaised most ps f → AreRaised most qs f
raised_added most ps qs k f is raised i c stands =
    grown_cases (λ o. is_open_with c o ≡ true → TakesUpTo most (f c.0)) ps (Some (new_peer k k.first_id)) i
    (λ last clash. absurd (true≢false (sym clash))) (raised i c) (ap (λ l. is_open_with c (peer_at l i)) (sym is) ∙ stands)

pub back_is_closed : (c : Conn) (o : Option Peer) → is_open_with c (option_map set_back o) ≡ false
back_is_closed c None = refl
back_is_closed c (Some p) = refl

pub raised_set : (most : ℕ) (ps qs : List (Option Peer)) (i : ℕ) (y p : Option Peer) (f g : Intakes) → qs ≡ set ps i y →
    g ≡ left_by_peer p f → ((c : Conn) → is_open_with c y ≡ false) → AreRaised most ps f → AreRaised most qs g
raised_set most ps qs i y p f g is left closed raised j c stands =
    subst (λ h. TakesUpTo most (h c.0)) (sym left)
    (takes_less most (holds_it c p) (f c.0)
    (set_cases (λ o. is_open_with c o ≡ true → TakesUpTo most (f c.0)) ps i j y
    (λ here clash. absurd (two_truths (is_open_with c y) clash (closed c))) (raised j c)
    (ap (λ l. is_open_with c (peer_at l j)) (sym is) ∙ stands)))

-- what is held takes longer messages behind it
two_raised : (most : ℕ) (a b : Bool) (x : Option Intake) → (a || b) ≡ true →
    TakesUpTo most (cond b (option_map (with_max most) (cond a (option_map (with_max most) x) x))
    (cond a (option_map (with_max most) x) x))
two_raised most a true x one = takes_most most (cond a (option_map (with_max most) x) x)
two_raised most true false x one = takes_most most x
two_raised most false false x one = absurd (true≢false (sym one))

pub raised_held : (most : ℕ) (held : Holding) (o : Option Peer) (f : Intakes) (c : Conn) → has held c ≡ holds_it c o →
    is_open_with c o ≡ true → TakesUpTo most (raised_at most held.accepted (raised_at most held.initiated f) c.0)
raised_held most held o f c same stands =
    two_raised most (is_conn_number c.0 held.initiated) (is_conn_number c.0 held.accepted) (f c.0)
    (ap (λ a. a || is_conn_number c.0 held.accepted) (on_is held.initiated c)
    ∙ ap (λ b. is_on held.initiated c || b) (on_is held.accepted c)
    ∙ same ∙ open_holds c o stands)

-- so what is settled for an open neighbour does
pub raised_where_open : (most : ℕ) (held : Holding) (o : Option Peer) (is : Bool) (f h : Intakes) (c : Conn) →
    h ≡ cond is (raised_at most held.accepted (raised_at most held.initiated f)) f → is ≡ is_open (peer_state o) →
    has held c ≡ holds_it c o → is_open_with c o ≡ true → TakesUpTo most (h c.0)
raised_where_open most held o is f h c settled state same stands =
    subst (λ g. TakesUpTo most (g c.0)) (sym settled)
    (subst (λ b. TakesUpTo most (cond b (raised_at most held.accepted (raised_at most held.initiated f)) f c.0))
    (sym (state ∙ open_state c o stands)) (raised_held most held o f c same stands))

-- a connection that takes them already
pub raised_already : (most : ℕ) (c : Conn) (f : Intakes) → TakesUpTo most (f c.0) → raised_at most (Some c) f ≡ f
raised_already most c f takes = fun_ext (λ d. by d (nat_eq c.0 d) refl)
  where
    by : (d : ℕ) (b : Bool) → nat_eq c.0 d ≡ b → cond b (option_map (with_max most) (f d)) (f d) ≡ f d
    by d true e = taken_already most (f d) (subst (λ n. TakesUpTo most (f n)) (eqb-true c.0 d e) takes)
    by d false e = refl

-- where a neighbour is open as before nothing is left to settle
pub nothing_left : (most : ℕ) (f : Intakes) (before : Holding) (o : Option Peer) (actions : List Action) →
    IsOpenAsBefore most f before actions o → f ≡ raised_for most o (left_by actions f)
nothing_left most f before o actions stays =
    let left : left_by actions f ≡ f = fun_ext (λ d. ap (λ b. cond b None (f d)) (stays.unclosed (record { 0 = d }))) in
    sym (ap (raised_for most o) left ∙ stays.raised f ∙ raised_already most stays.conn f stays.takes)

pub takes_as_before : (most : ℕ) (f : Intakes) (before : Holding) (o : Option Peer) (actions : List Action) (c : Conn) →
    IsOpenAsBefore most f before actions o → is_open_with c o ≡ true → TakesUpTo most (f c.0)
takes_as_before most f before o actions c stays stands =
    subst (λ (g : Intakes). TakesUpTo most (g c.0)) (raised_already most stays.conn f stays.takes)
    (raised_held most (one_held stays.conn) o f c (stays.held c) stands)

-- and what others hold is left as it was, or goes
pub raised_settled : (most : ℕ) (ps qs : List (Option Peer)) (who : Option ℕ) (before : Holding) (actions : List Action)
    (f h : Intakes) → IsReowned ps qs who before → h ≡ raised_for most (concerned_in qs who) (left_by actions f) →
    ((c : Conn) → is_open_with c (concerned_in qs who) ≡ true → TakesUpTo most (h c.0)) → AreRaised most ps f →
    AreRaised most qs h
raised_settled most ps qs None before actions f h is settled here raised i c stands =
    subst (λ g. TakesUpTo most (g c.0)) (sym settled)
    (takes_less most (actions_close actions c.0) (f c.0)
    (raised i c (ap (λ l. is_open_with c (peer_at l i)) (sym is) ∙ stands)))
raised_settled most ps qs (Some j) before actions f h is settled here raised i c stands =
    elim (cases_eq i j) [
      | inl s ↦ here c (ap (λ n. is_open_with c (peer_at qs n)) (sym s) ∙ stands)
      | inr un ↦ subst (λ g. TakesUpTo most (g c.0)) (sym settled)
          (raised_keeps (TakesUpTo most) most c.0 (λ o takes. takes_most most o) (peer_at qs j) (left_by actions f)
          (takes_less most (actions_close actions c.0) (f c.0)
          (raised i c (ap (is_open_with c) (sym (is.others i un)) ∙ stands))))
    ]

-- a neighbour that is open on the connection that it held, open, before
concerned_takes : (most : ℕ) (ps : List (Option Peer)) (f : Intakes) (who : Option ℕ) (c : Conn) → AreRaised most ps f →
    is_open_with c (concerned_in ps who) ≡ true → TakesUpTo most (f c.0)
concerned_takes most ps f None c raised stands = absurd (true≢false (sym stands))
concerned_takes most ps f (Some i) c raised stands = raised i c stands

same_conn : (d e : Conn) (octets s : List ℕ) → Arrived d octets ≡ Arrived e s → d ≡ e
same_conn d e octets s is = one_some d e (ap conn_of is)

-- what a neighbour closes that it held, and holds on to, or octets on what it holds on to: nothing
module _ (own : ClosesItsOwn) (ps qs : List (Option Peer)) (actions : List Action) (on : Conn) (who : Option ℕ)
    (kept : AreKept ps) (before : IsReowned ps qs who (one_held on))
    (now : (c : Conn) → has (one_held on) c ≡ holds_it c (concerned_in qs who))
    (free : (c : Conn) → actions_close actions c.0 ≡ true → IsFree qs c) where
  -- what is held on to isn't free
  kept_on : (c : Conn) → has (one_held on) c ≡ true → IsFree qs c → ⊥
  kept_on c held none = by who now where
    by : (o : Option ℕ) → ((d : Conn) → has (one_held on) d ≡ holds_it d (concerned_in qs o)) → ⊥
    by None is = true≢false (sym held ∙ is c)
    by (Some i) is = two_truths (has (one_held on) c) held (is c ∙ none i)

  told_unclosed : (e : PeerEvent) (i : ℕ) (c : Conn) → who ≡ Some i → PeerIsTold ps qs i e actions →
      ((d : Conn) → CameOn e d → has (one_held on) d ≡ true) → actions_close actions c.0 ≡ true → ⊥
  told_unclosed e i c is told came closing =
      let settled : IsReowned ps qs (Some i) (one_held on) = subst (λ o. IsReowned ps qs o (one_held on)) is before in
      elim (own told.before told.after e actions c (kept i told.before told.was) told.acts closing) [
        | inl held ↦ kept_on c (settled.held c ∙ ap (holds_it c) told.was ∙ held) (free c closing)
        | inr arrived ↦ kept_on c (came c arrived) (free c closing)
      ]

  somebody : who ≡ None → ⊥
  somebody none =
      true≢false (sym (has_initiated (one_held on) on refl) ∙ now on ∙ ap (λ o. holds_it on (concerned_in qs o)) none)

  -- at a message that came on a connection of the neighbour that holds it, and at an event that is no octets
  pub message_unclosed : (policy : Policy) (d : Conn) (octets : List ℕ) (n : Node) (holder : Option ℕ) →
      IsHolder ps d holder → ((c : Conn) → has (one_held on) c ≡ holds_it c (concerned_in ps holder)) →
      NodeMoves policy d octets n ps who actions qs → (c : Conn) → actions_close actions c.0 ≡ false
  message_unclosed policy d octets n holder is held moved c =
      false_from_ne_true (actions_close actions c.0) (by who holder refl refl is held moved)
    where
      here : (k : ℕ) → holder ≡ Some k → IsHolder ps d (Some k) → (e : Conn) → CameOn (Arrived d octets) e →
          has (one_held on) e ≡ true
      here k same holds e (s, arrived) =
          held e ∙ ap (λ o. holds_it e (concerned_in ps o)) same
          ∙ ap (λ (x : Conn). holds_at ps x k) (sym (same_conn d e octets s arrived)) ∙ holds.found

      by : (w h : Option ℕ) → who ≡ w → holder ≡ h → IsHolder ps d h →
          ((e : Conn) → has (one_held on) e ≡ holds_it e (concerned_in ps holder)) →
          NodeMoves policy d octets n ps w actions qs → actions_close actions c.0 ≡ true → ⊥
      by None h none same holds was m closing = somebody none
      by (Some i) None is same holds was m closing =
          true≢false (sym (has_initiated (one_held on) on refl) ∙ was on ∙ ap (λ o. holds_it on (concerned_in ps o)) same)
      by (Some i) (Some k) is same holds was (inl (addressed, told)) closing =
          told_unclosed (Arrived d octets) i c is told (here k same holds) closing
      by (Some i) (Some k) is same holds was (inr (config, permitted, joins)) closing =
          permitted.unknown.nobody k (inl holds.found)

  pub event_unclosed : (policy : Policy) (e : NodeEvent) (n : Node) → (IsStrangeCer e → ⊥) →
      ((c : Conn) (octets : List ℕ) → told_of e ≡ Arrived c octets → ⊥) → NodeIsTold policy e n ps who actions qs →
      (c : Conn) → actions_close actions c.0 ≡ false
  event_unclosed policy e n calm plain told c =
      false_from_ne_true (actions_close actions c.0) (by who refl told)
    where
      by : (w : Option ℕ) → who ≡ w → NodeIsTold policy e n ps w actions qs → actions_close actions c.0 ≡ true → ⊥
      by None none m closing = somebody none
      by (Some i) is m closing =
          told_unclosed (told_of e) i c is (told_event policy e n ps qs i actions calm m).1
          (λ d came. absurd (plain d came.0 came.1)) closing

pub open_as_before : (most : ℕ) (f : Intakes) (ps qs : List (Option Peer)) (holder who : Option ℕ) (on : Conn)
    (before : Holding) → before ≡ one_held on → is_open (peer_state (concerned_in ps holder)) ≡ true →
    ((c : Conn) → has (one_held on) c ≡ holds_it c (concerned_in ps holder)) →
    ((c : Conn) → has (one_held on) c ≡ holds_it c (concerned_in qs who)) →
    ((m : ℕ) (g : Intakes) → raised_for m (concerned_in qs who) g ≡ raised_at m (Some on) g) →
    (actions : List Action) → ((c : Conn) → actions_close actions c.0 ≡ false) → AreRaised most ps f →
    IsOpenAsBefore most f before actions (concerned_in qs who)
open_as_before most f ps qs holder who on before is stands held now raises actions unclosed raised = record {
  conn = on;
  only = is;
  held = now;
  raised = raises most;
  takes = concerned_takes most ps f holder on raised
      (open_with on (concerned_in ps holder) stands (sym (held on) ∙ has_initiated (one_held on) on refl));
  unclosed = unclosed;
}
