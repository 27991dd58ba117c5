-- Orders of a node: a Start, and an end.
use Rattle.std.proofs.Common.{◌≡◌, ℕ, Bool, true, false, cond, nat_eq, true≢false, is_some, Option, None, Some, List, refl, sym, ap, ◌∙◌, subst}
use Rattle.std.proofs.Math.Path.{fun_ext}
use Rattle.std.proofs.lemmas.Bool.{eqb-true, false_from_ne_true}
use Rattle.dm_base.specs.declared.node.Node.{Node}
use Rattle.dm_machine.specs.declared.connection.Conn.{Conn}
use Rattle.dm_node.specs.Holding.{holds_it, holds_at, AreApart}
use Rattle.dm_node.specs.Policies.{no_strangers}
use Rattle.dm_node.specs.Strangers.{NodeIsTold}
use Rattle.dm_node.specs.Telling.{IsFree, PeerIsTold}
use Rattle.dm_node.specs.declared.events.NodeEvent.TheVariants as event
use Rattle.dm_peer.specs.declared.actions.Action.{Action}
use Rattle.dm_peer.specs.declared.peer.Peer.{Peer}
use Rattle.dm_peer.specs.Events.{Gone}
use Rattle.dm_peer.specs.Holding.{GoneIsUnheld}
use Rattle.dm_slots.specs.Intakes.{Intake, Intakes, is_there, taken_down, with_intake, new_intake}
use Rattle.dm_node.specs.NodeHeld.{AllHeldAreThere, AreKept}
use Rattle.dm_node.specs.NodeOrders.{node_opened, node_shut, NodeTellsOnce, NodeTellsNothing, NodeTellsIfThere, NodeTellsStart}
use Rattle.dm_node.specs.NodeStates.{NodeState, NodeAnswer, with_node_intakes}
use Rattle.dm_node.proofs.NodeStaying.{none_holds}
use Rattle.dm_node.proofs.Taking.{told_cases}

none_of : (o : Option Intake) → is_some o ≡ false → o ≡ None
none_of None e = refl
none_of (Some i) e = absurd (true≢false e)

-- a connection that wasn't there, opened and shut again
shut_again : (max c : ℕ) (f : Intakes) → f c ≡ None → taken_down c (with_intake c (Some (new_intake max)) f) ≡ f
shut_again max c f none = fun_ext (λ d. at d (nat_eq c d) refl)
  where
    at : (d : ℕ) (b : Bool) → nat_eq c d ≡ b → cond b None (cond b (Some (new_intake max)) (f d)) ≡ f d
    at d true e = sym none ∙ ap f (eqb-true c d e)
    at d false e = refl

pub shut_opened : (c : Conn) (s : NodeState) → is_there c.0 s.intakes ≡ false → node_shut c (node_opened c s) ≡ s
shut_opened c s e =
    let new = with_intake c.0 (Some (new_intake s.first_max)) s.intakes in
    ap (λ b. with_node_intakes (taken_down c.0 (cond b s.intakes new)) s) e
    ∙ ap (λ f. with_node_intakes f s) (shut_again s.first_max c.0 s.intakes (none_of (s.intakes c.0) e))

-- a Start of a connection that wasn't there
pub started : (n : ℕ) (c : Conn) (s o t : NodeState) (asks : Option NodeAnswer) → is_there c.0 s.intakes ≡ false →
    o ≡ node_opened c s → NodeTellsOnce (event.Start n c) o asks t → NodeTellsStart n c s asks t
started n c s o t asks e is told =
    subst (λ b. cond b (NodeTellsNothing s asks t) (NodeTellsOnce (event.Start n c) (node_opened c s) asks t)) (sym e)
    (subst (λ v. NodeTellsOnce (event.Start n c) v asks t) is told)

-- behind its end nobody holds a connection
gone_told : GoneIsUnheld → (c : Conn) (ps qs : List (Option Peer)) (i : ℕ) (actions : List Action) → AreKept ps →
    AreApart ps → holds_at ps c i ≡ true → PeerIsTold ps qs i (Gone c) actions → IsFree qs c
gone_told gone c ps qs i actions kept apart is told j =
    told_cases (λ o. holds_it c o ≡ false) ps qs i j (Gone c) actions told
    (λ s. gone told.before told.after actions c (kept i told.before told.was) told.acts)
    (λ un. false_from_ne_true (holds_at ps c j) (λ held. un (apart.one j i c held is)))

gone_moved : GoneIsUnheld → (c : Conn) (n : Node) (ps qs : List (Option Peer)) (who : Option ℕ)
    (actions : List Action) → AreKept ps → AreApart ps → NodeIsTold no_strangers (event.Gone c) n ps who actions qs →
    IsFree qs c
gone_moved gone c n ps qs (Some i) actions kept apart m = gone_told gone c ps qs i actions kept apart m.0 m.1
gone_moved gone c n ps qs None actions kept apart m =
    subst (λ l. IsFree l c) (sym m.2) (λ j. false_from_ne_true (holds_at ps c j) (m.0 j))

pub gone_free : GoneIsUnheld → (c : Conn) (s t : NodeState) (asks : Option NodeAnswer) → AreKept s.peers →
    AreApart s.peers → AllHeldAreThere s.peers s.intakes → NodeTellsIfThere c (event.Gone c) s asks t →
    IsFree t.peers c
gone_free gone c s t asks kept apart there told = by (is_there c.0 s.intakes) refl told where
  by : (b : Bool) → is_there c.0 s.intakes ≡ b →
      cond b (NodeTellsOnce (event.Gone c) s asks t) (NodeTellsNothing s asks t) → IsFree t.peers c
  by true is (answer, asked, tells) =
      subst (λ (v : NodeState). IsFree v.peers c) (sym tells.left)
      (gone_moved gone c s.node s.peers tells.peers answer.neighbour answer.actions kept apart tells.moved)
  by false is nothing =
      subst (λ (v : NodeState). IsFree v.peers c) (sym nothing.1) (none_holds s.peers s.intakes c there is)
