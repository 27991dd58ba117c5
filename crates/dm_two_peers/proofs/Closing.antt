-- A connection on which a node is closing stays so, or is given up.
use Rattle.std.proofs.Common.{◌≡◌, ℕ, Bool, true, IsTrue, List, refl, sym, subst, inl, inr}
use Rattle.std.proofs.lemmas.List.Elements.{All-contains}
use Rattle.std.proofs.lemmas.List.Sums.{AllPass-from_list_all}
use Rattle.std.specs.List.{list_all}
use Rattle.std.specs.Prelude.{Contains}
use Rattle.dm_machine.specs.Moves.{NodeOutcome}
use Rattle.dm_machine.specs.Connection.{Hold, hold_of, orders_to, AtConnection}
use Rattle.dm_machine.specs.Connection as machine
use Rattle.dm_machine.specs.Changes.{Change, changed_to, allowed}
use Rattle.dm_two_peers.specs.Machine.{conn, Node, is_shaped}
use Rattle.dm_two_peers.specs.Peers.{Event, Action, Reply, ActsBy, Peers}
use Rattle.dm_two_peers.specs.Follows.{FollowsMachine, IsMachine}
use Rattle.dm_two_peers.specs.Delivery.{is_closing_hold, is_done_hold, CarriesMessages}
use Rattle.dm_two_peers.proofs.Every.{all_true}
use Rattle.dm_two_peers.proofs.StandingSteps.{when, is_when}
use Rattle.dm_two_peers.proofs.Ties.{MachineLaws}
use Rattle.dm_two_peers.proofs.EveryHold.{every_way, every_word, every_hold, at_way, at_hold}

abbrev stays_closing : Hold → Change → Bool
stays_closing h x = when (is_closing_hold h) (is_done_hold x.next)

closing_checked : every_way (λ k. every_hold (λ h. list_all (stays_closing h) (allowed k h))) ≡ true
unfolding all_true every_way every_word every_hold
closing_checked = refl

closing_here : (k : machine.Concern) (h : Hold) (x : Change) → Contains (allowed k h) x → is_closing_hold h ≡ true →
    is_done_hold x.next ≡ true
closing_here k h x ok closing =
    let at_k = at_way (λ j. every_hold (λ g. list_all (stays_closing g) (allowed j g))) closing_checked k in
    let at_h = at_hold (λ g. list_all (stays_closing g) (allowed k g)) at_k h in
    is_when (is_closing_hold h) _
    (All-contains (λ y. stays_closing h y ≡ true) (allowed k h) x
    (AllPass-from_list_all (stays_closing h) (allowed k h) at_h) ok) closing

closing_over : (h : Hold) → is_closing_hold h ≡ true → is_done_hold h ≡ true
closing_over machine.ClosingAsI e = refl
closing_over machine.ClosingAsR e = refl
closing_over _ e = cc

by_follows : {P M : Type 0} (m : Peers P M) (p next : P) (e : Event M) (actions : List (Action M)) (c : ℕ)
    (r : Reply P M) → MachineLaws → IsTrue (is_shaped (m.node_of p)) → r ≡ ActsBy actions next → FollowsMachine m p e r →
    is_closing_hold (hold_of (m.node_of p) (conn c)) ≡ true → is_done_hold (hold_of (m.node_of next) (conn c)) ≡ true
by_follows {P} {M} m p next e actions c r laws shaped is h closing =
    let n = m.node_of p in
    let n' = m.node_of next in
    elim (subst (λ (r : Reply P M). FollowsMachine m p e r) is h) [
      | inl step ↦
          let mk = machine.concern_of step.input (conn c) in
          let orders = orders_to (conn c) step.commands in
          let raw : Contains (allowed mk (hold_of n (conn c))) (changed_to (hold_of n' (conn c)) orders) =
          subst (λ (o : NodeOutcome). AtConnection
          (λ j before after os. Contains (allowed j before) (changed_to after os)) n step.input (conn c) o)
          step.moves (laws.changes n step.input step.wins (conn c) shaped) in
          closing_here mk (hold_of n (conn c)) (changed_to (hold_of n' (conn c)) orders) raw closing
      | inr drop ↦
          closing_over (hold_of n' (conn c))
          (subst (λ (x : Node). is_closing_hold (hold_of x (conn c)) ≡ true) (sym drop.stays) closing)
    ]

-- peers that carry messages, with that
pub record CarriesOn {P M : Type 0} (m : Peers P M) (is_app : M → Bool) (stands : P → Bool) : Type 0 where
  pub does : CarriesMessages m is_app stands
  pub closes : (p next : P) (e : Event M) (actions : List (Action M)) (c : ℕ) → IsTrue (is_shaped (m.node_of p)) →
      m.reply p e ≡ ActsBy actions next → IsTrue (is_closing_hold (hold_of (m.node_of p) (conn c))) →
      IsTrue (is_done_hold (hold_of (m.node_of next) (conn c)))

pub carries_on_proof : {P M : Type 0} (m : Peers P M) (is_app : M → Bool) (stands : P → Bool) → MachineLaws →
    IsMachine m →
    CarriesMessages m is_app stands → CarriesOn m is_app stands
carries_on_proof m is_app stands laws is carries =
    record {
      does = carries;
      closes = λ p next e actions c shaped replies closing.
          by_follows m p next e actions c (m.reply p e) laws shaped replies (is.follows p e) closing;
    }
