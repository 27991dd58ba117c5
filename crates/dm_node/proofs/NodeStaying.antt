-- Each connection that a neighbour holds is there, whatever is done.
use Rattle.std.proofs.Common.{◌≡◌, ℕ, Bool, true, false, true≢false, cond, nat_eq, is_some, Option, None, Some, Result, Ok, Err, OnOk, OnErr, List, sym, ap, ◌∙◌, subst}
use Rattle.std.proofs.lemmas.Bool.{eqb-true, cond_both, false_from_ne_true}
use Rattle.std.specs.Option.{option_map}
use Rattle.dm_machine.specs.declared.connection.Conn.{Conn}
use Rattle.dm_machine.specs.declared.state_name.State.{State}
use Rattle.dm_machine.specs.Moves.{is_open}
use Rattle.dm_node.specs.Holding.{holds_at, holds_it}
use Rattle.dm_node.specs.Telling.{IsFree}
use Rattle.dm_peer.specs.declared.actions.Action.{Action}
use Rattle.dm_peer.specs.declared.peer.Peer.{Peer}
use Rattle.dm_slots.specs.Intakes.{Intake, Intakes, is_there, is_conn_number, opened, taken_down, changed, with_intake}
use Rattle.dm_slots.specs.Intakes.{actions_close, left_by, raised_at, with_max}
use Rattle.dm_slots.specs.Raised.{own_of, other_of}
use Rattle.dm_peer.specs.Events.{PeerEvent, Arrived, Start}
use Rattle.dm_slots.specs.Naming.{NamesThere, NamesAtMost}
use Rattle.dm_slots.specs.Staying.{OpeningKeeps, ChangingKeeps, TellingKeeps, RaisingKeeps, ClosingKeeps, ShuttingKeeps}
use Rattle.dm_node.specs.NodeHeld.{AllHeldAreThere}
use Rattle.dm_node.specs.NodeKnown.{peer_state}
use Rattle.dm_node.specs.Owning.{initiated_of, accepted_of}
use Rattle.dm_node.specs.NodeStates.{NodeState, concerned_in, raised_for, node_settled, with_node_intakes}
use Rattle.dm_node.specs.NodeOrders.{node_opened}
use Rattle.dm_node.proofs.Basics.{two_truths}

pub held_opened : OpeningKeeps → (ps : List (Option Peer)) (max d : ℕ) (f : Intakes) → AllHeldAreThere ps f →
    AllHeldAreThere ps (opened max d f)
held_opened keeps ps max d f there i c held = (keeps max d f).1 c.0 (there i c held)

pub held_changed : ChangingKeeps → (ps : List (Option Peer)) (d : ℕ) (change : Intake → Intake) (f : Intakes) →
    AllHeldAreThere ps f → AllHeldAreThere ps (changed d change f)
held_changed keeps ps d change f there i c held = keeps d change f c.0 (there i c held)

pub held_with : TellingKeeps → (ps : List (Option Peer)) (d : ℕ) (i : Intake) (f : Intakes) →
    AllHeldAreThere ps f → AllHeldAreThere ps (with_intake d (Some i) f)
held_with keeps ps d i f there j c held = keeps d i f c.0 (there j c held)

-- one that nobody holds may go
pub held_shut : ShuttingKeeps → (ps : List (Option Peer)) (d : Conn) (f : Intakes) → AllHeldAreThere ps f →
    IsFree ps d → AllHeldAreThere ps (taken_down d.0 f)
held_shut keeps ps d f there free i c held =
    ap is_some (keeps d.0 c.0 f (λ e. two_truths (holds_at ps c i) held
    (subst (λ x. holds_at ps x i ≡ false) (ap (λ n. record { 0 = n }) e) (free i))))
    ∙ there i c held

raised_there : RaisingKeeps → (most : ℕ) (p : Option Peer) (f : Intakes) (c : ℕ) → is_there c f ≡ true →
    is_there c (raised_for most p f) ≡ true
raised_there keeps most None f c is = is
raised_there keeps most (Some p) f c is = keeps most p f c is

-- and so may what is closed
pub held_left : ClosingKeeps → RaisingKeeps → (ps : List (Option Peer)) (actions : List Action) (most : ℕ)
    (p : Option Peer) (f : Intakes) → AllHeldAreThere ps f →
    ((c : Conn) → actions_close actions c.0 ≡ true → IsFree ps c) → AllHeldAreThere ps (raised_for most p (left_by actions f))
held_left closing raising ps actions most p f there free i c held =
    raised_there raising most p (left_by actions f) c.0 (ap is_some (closing actions c.0 f unclosed) ∙ there i c held)
  where
    unclosed : actions_close actions c.0 ≡ false
    unclosed = false_from_ne_true (actions_close actions c.0) (λ e. two_truths (holds_at ps c i) held (free c e i))

-- what a neighbour holds is there
pub concerned_there : (ps : List (Option Peer)) (f : Intakes) (who : Option ℕ) (c : Conn) → AllHeldAreThere ps f →
    holds_it c (concerned_in ps who) ≡ true → is_there c.0 f ≡ true
concerned_there ps f None c there held = absurd (true≢false (sym held))
concerned_there ps f (Some i) c there held = there i c held

-- what it holds takes longer messages where it is stood, by what it is at a time
pub raised_so : (o : Option Peer) (state : State) (own other : Option Conn) (is : Bool) (most : ℕ) (f : Intakes) →
    is ≡ is_open state → state ≡ peer_state o → own ≡ initiated_of o → other ≡ accepted_of o →
    cond is (raised_at most other (raised_at most own f)) f ≡ raised_for most o f
raised_so None state own other is most f stood at first second =
    ap (λ b. cond b (raised_at most other (raised_at most own f)) f) (stood ∙ ap is_open at)
raised_so (Some p) state own other is most f stood at first second =
    ap (λ b. cond b (raised_at most other (raised_at most own f)) f) (stood ∙ ap is_open at)
    ∙ ap (λ a. cond (is_open p.standing.core.state) (raised_at most other (raised_at most a f)) f) first
    ∙ ap (λ b. cond (is_open p.standing.core.state) (raised_at most b (raised_at most (own_of p) f)) f) second

-- what holds of an intake whatever its maximum is holds of it where some are raised
module _ (P : Option Intake → Type 0) (most d : ℕ) (whatever : (o : Option Intake) → P o →
    P (option_map (with_max most) o)) where
  raised_at_keeps : (conn : Option Conn) (f : Intakes) → P (f d) → P (raised_at most conn f d)
  raised_at_keeps conn f is =
      cond_both (is_conn_number d conn) (option_map (with_max most) (f d)) (f d) P (λ e. whatever (f d) is) (λ e. is)

  pub raised_keeps : (p : Option Peer) (f : Intakes) → P (f d) → P (raised_for most p f d)
  raised_keeps None f is = is
  raised_keeps (Some p) f is =
      cond_both (is_open p.standing.core.state) (raised_at most (other_of p) (raised_at most (own_of p) f)) f
      (λ g. P (g d)) (λ e. raised_at_keeps (other_of p) (raised_at most (own_of p) f) (raised_at_keeps (own_of p) f is))
      (λ e. is)

-- a connection that isn't there isn't held
pub none_holds : (ps : List (Option Peer)) (f : Intakes) (c : Conn) → AllHeldAreThere ps f → is_there c.0 f ≡ false →
    IsFree ps c
none_holds ps f c there none i =
    false_from_ne_true (holds_at ps c i) (λ held. two_truths (is_there c.0 f) (there i c held) none)

-- an event that names no connection but one that is there
pub names_there : (e : PeerEvent) (c : Conn) (f : Intakes) → NamesAtMost e c → is_there c.0 f ≡ true → NamesThere e f
names_there e c f most there d named = subst (λ x. is_there x.0 f ≡ true) (sym (most d named)) there

pub by_number : (c d : Conn) → nat_eq c.0 d.0 ≡ true → d ≡ c
by_number c d e = sym (ap (λ n. record { 0 = n }) (eqb-true c.0 d.0 e))

-- octets of a connection that is there
pub arrived_there : (c : Conn) (s : List ℕ) (i : Intake) (f : Intakes) → f c.0 ≡ Some i → NamesThere (Arrived c s) f
arrived_there c s i f there = names_there (Arrived c s) c f (λ d e. by_number c d e) (ap is_some there)

-- a Start of a connection that was opened for it
pub started_there : OpeningKeeps → (c : Conn) (s o : NodeState) → o ≡ node_opened c s → NamesThere (Start c) o.intakes
started_there keeps c s o is =
    names_there (Start c) c o.intakes (λ d e. by_number c d e)
    (ap (λ (v : NodeState). is_there c.0 v.intakes) is ∙ (keeps s.first_max c.0 s.intakes).0)

-- where something is done or it isn't
pub done_or_not : {A E : Type 0} (r : Result A E) (P : Intakes → Type 0) (x old new : Intakes) → OnOk r (new ≡ x) →
    OnErr r (new ≡ old) → P x → P old → P new
done_or_not (Ok a) P x old new ok err there before = subst P (sym ok) there
done_or_not (Err e) P x old new ok err there before = subst P (sym err) before

-- what is settled goes by the neighbours and what is there
abbrev pub node_at : NodeState → List (Option Peer) → Intakes → NodeState
node_at s qs f = record s { peers = qs; intakes = f }

-- what is left behind an event of a node whose connections were these
pub settled_as : (s : NodeState) (qs : List (Option Peer)) (who : Option ℕ) (actions : List Action)
    (h g f : Intakes) → h ≡ raised_for s.most (concerned_in qs who) (left_by actions g) → g ≡ f →
    node_at s qs h ≡ node_settled who qs actions (with_node_intakes f s)
settled_as s qs who actions h g f left is =
    ap (node_at s qs) (left ∙ ap (λ x. raised_for s.most (concerned_in qs who) (left_by actions x)) is)

pub node_is : (s : NodeState) (qs rs : List (Option Peer)) (g f : Intakes) → qs ≡ rs → g ≡ f →
    node_at s qs g ≡ node_at s rs f
node_is s qs rs g f peers is = ap (λ l. node_at s l g) peers ∙ ap (node_at s rs) is
