-- What a step of a peer that moves as the machine does to a link: taken from the machine's laws.
use Rattle.std.proofs.Common.{◌≡◌, ℕ, Bool, true, false, IsTrue, List, map, refl, sym, ap}
use Rattle.std.proofs.Common.{subst, ◌∙◌, inl, inr}
use Rattle.std.specs.Prelude.{Contains}
use Rattle.dm_machine.specs.Moves.{NodeOutcome}
use Rattle.dm_machine.specs.Shape.{KeepsShape}
use Rattle.dm_machine.specs.Connection.{hold_of}
use Rattle.dm_machine.specs.Connection.{orders_to, AtConnection}
use Rattle.dm_machine.specs.Connection as machine
use Rattle.dm_machine.specs.Changes.{changed_to, allowed}
use Rattle.dm_two_peers.specs.Machine.{conn, Node, LinkConcern, Elsewhere, HeardOnLink, is_shaped, Tie}
use Rattle.dm_two_peers.specs.Machine.{Unheld, Connecting, Connected, ConnectedOpen, AcceptedTie, tie_of}
use Rattle.dm_two_peers.specs.Machine.{EachConnectionChangesAsAllowed, EachStepKeepsShape}
use Rattle.dm_machine.specs.Deeds.{Deed, deed_of_command}
use Rattle.dm_two_peers.specs.Peers.{Event, Action, Reply, ActsBy, Peers, concern_by, deed_in, closes_at, sends_at}
use Rattle.dm_two_peers.specs.Follows.{StepsAsMachine, DropsMessage, is_droppable, FollowsMachine, IsMachine}
use Rattle.dm_two_peers.proofs.Concerns.{concern_as, told_concern}
use Rattle.dm_two_peers.proofs.StandingSteps.{is_ready, is_allowed}
use Rattle.dm_two_peers.proofs.Orders.{is_close, is_send, some_order, allowed_here, closes_ordered, sends_ordered}

-- a reply keeps the node's shape, and changes each link only as is allowed
abbrev pub ChangesAllowed : {M : Type 0} → Node → Event M → List (Action M) → Node → ℕ → Type 0
ChangesAllowed n e actions next c =
    is_ready (concern_by e (conn c)) (tie_of n c) ≡ true →
    is_allowed (concern_by e (conn c)) (tie_of n c) (tie_of next c) (closes_at c (map deed_in actions))
    (sends_at c (map deed_in actions)) ≡ true

pub record KeepsTies {M : Type 0} (n : Node) (e : Event M) (actions : List (Action M)) (next : Node) : Type 0 where
  pub shaped : IsTrue (is_shaped next)
  pub changes : (c : ℕ) → ChangesAllowed n e actions next c

step_ties : {P M : Type 0} (m : Peers P M) (p next : P) (e : Event M) (actions : List (Action M)) →
    EachConnectionChangesAsAllowed → EachStepKeepsShape → IsTrue (is_shaped (m.node_of p)) →
    StepsAsMachine m p e actions next → KeepsTies (m.node_of p) e actions (m.node_of next)
step_ties m p next e actions law keeps shaped step =
    let n = m.node_of p in
    let n' = m.node_of next in
    record {
      shaped = (subst (λ (o : NodeOutcome). KeepsShape o) step.moves (keeps n step.input step.wins shaped)).0;
      changes = λ c ready.
          let commands = step.commands in
          let orders = orders_to (conn c) commands in
          let mk = machine.concern_of step.input (conn c) in
          let k = concern_by e (conn c) in
          let same : concern_as mk ≡ k = ap (λ i. concern_as (machine.concern_of i (conn c))) step.told
          ∙ told_concern e step.word (conn c) in
          let raw : Contains (allowed mk (hold_of n (conn c))) (changed_to (hold_of n' (conn c)) orders) =
          subst (λ (o : NodeOutcome). AtConnection
          (λ j before after os. Contains (allowed j before) (changed_to after os)) n step.input (conn c) o)
          step.moves (law n step.input step.wins (conn c) shaped) in
          let here = allowed_here mk (hold_of n (conn c)) (changed_to (hold_of n' (conn c)) orders) raw
          (subst (λ (j : LinkConcern). is_ready j (tie_of n c) ≡ true) (sym same) ready) in
          let named = subst (λ (j : LinkConcern). is_allowed j (tie_of n c) (tie_of n' c) (some_order is_close orders)
          (some_order is_send orders) ≡ true) same here in
          let closed = subst (λ (b : Bool). is_allowed k (tie_of n c) (tie_of n' c) b
          (some_order is_send orders) ≡ true) (sym (closes_ordered c commands)) named in
          let sent = subst (λ (b : Bool). is_allowed k (tie_of n c) (tie_of n' c)
          (closes_at c (map deed_of_command commands)) b ≡ true) (sym (sends_ordered c commands)) closed in
          subst (λ (os : List Deed). is_allowed k (tie_of n c) (tie_of n' c) (closes_at c os)
          (sends_at c os) ≡ true) (sym step.deeds) sent;
    }

dropped_allowed : (k : LinkConcern) (t : Tie) → is_droppable k t ≡ true → is_allowed k t t false false ≡ true
dropped_allowed Elsewhere Unheld h = refl
dropped_allowed Elsewhere Connecting h = refl
dropped_allowed Elsewhere Connected h = refl
dropped_allowed Elsewhere ConnectedOpen h = refl
dropped_allowed Elsewhere AcceptedTie h = refl
dropped_allowed HeardOnLink Connected h = refl
dropped_allowed HeardOnLink ConnectedOpen h = refl
dropped_allowed HeardOnLink AcceptedTie h = refl
dropped_allowed _ _ h = cc

drop_ties : {P M : Type 0} (m : Peers P M) (p next : P) (e : Event M) (actions : List (Action M)) →
    IsTrue (is_shaped (m.node_of p)) → DropsMessage m p e actions next → KeepsTies (m.node_of p) e actions (m.node_of next)
drop_ties {P} {M} m p next e actions shaped drop =
    let n = m.node_of p in
    record {
      shaped = subst (λ (x : Node). IsTrue (is_shaped x)) (sym drop.stays) shaped;
      changes = λ c ready.
          let F : Node → List (Action M) →
          Type 0 = λ x acts. is_allowed (concern_by e (conn c)) (tie_of n c) (tie_of x c)
          (closes_at c (map deed_in acts)) (sends_at c (map deed_in acts)) ≡ true in
          subst (λ x. F x actions) (sym drop.stays)
          (subst (λ acts. F n acts) (sym drop.silent)
          (dropped_allowed (concern_by e (conn c)) (tie_of n c) (drop.heard c)));
    }

replied : {P M : Type 0} (m : Peers P M) (p next : P) (e : Event M) (actions : List (Action M)) (r : Reply P M) →
    EachConnectionChangesAsAllowed → EachStepKeepsShape → IsTrue (is_shaped (m.node_of p)) →
    r ≡ ActsBy actions next → FollowsMachine m p e r → KeepsTies (m.node_of p) e actions (m.node_of next)
replied {P} {M} m p next e actions r law keeps shaped is h =
    elim (subst (λ (r : Reply P M). FollowsMachine m p e r) is h) [
      | inl step ↦ step_ties m p next e actions law keeps shaped step
      | inr drop ↦ drop_ties m p next e actions shaped drop
    ]

-- the two laws of the machine that all rests on
pub record MachineLaws : Type 0 where
  pub changes : EachConnectionChangesAsAllowed
  pub keeps : EachStepKeepsShape

pub ties_kept : {P M : Type 0} (m : Peers P M) (p next : P) (e : Event M) (actions : List (Action M)) →
    MachineLaws → IsMachine m → IsTrue (is_shaped (m.node_of p)) → m.reply p e ≡ ActsBy actions next →
    KeepsTies (m.node_of p) e actions (m.node_of next)
ties_kept m p next e actions laws is shaped acts = replied m p next e actions
    (m.reply p e) laws.changes laws.keeps shaped acts (is.follows p e)
