-- Telling the pieces of a stream to a node is telling the whole.
use Rattle.std.proofs.Common.{◌≡◌, ℕ, Bool, true, false, cond, nat_eq, Option, None, Some, List, [], ◌++◌, ◌∷◌, refl, ap, ◌∙◌, append_assoc, subst, sym}
use Rattle.std.proofs.Math.Path.{fun_ext}
use Rattle.std.proofs.lemmas.Bool.{eq-eqb}
use Rattle.std.proofs.lemmas.List.{append-nil}
use Rattle.std.specs.Option.{option_map}
use Rattle.dm_framer.specs.Laws.{FaultStands}
use Rattle.dm_machine.specs.Moves.{is_open}
use Rattle.dm_machine.specs.declared.connection.Conn.{Conn}
use Rattle.dm_node.specs.Policies.{Policy}
use Rattle.dm_peer.specs.declared.actions.Action.{Action}
use Rattle.dm_peer.specs.declared.peer.Peer.{Peer}
use Rattle.dm_slots.specs.Intakes.{Intake, Intakes, is_conn_number, with_intake, changed, fed_intake, broken_intake, with_max, actions_close, left_by, raised_at}
use Rattle.dm_slots.specs.Raised.{own_of, other_of}
use Rattle.dm_node.specs.NodeStreams.{NodeTellsAlong, NodeCutsAlike}
use Rattle.dm_node.specs.NodeStates.{NodeState, NodeTurn, NodeAnswer, NodeTellsMessage, NodeTellsAs, concerned_in, raised_for, node_fed, node_settled, with_node_intakes}
use Rattle.dm_node.proofs.NodeStaying.{node_at}

-- what came and wasn't broken off
abbrev with_octets : ℕ → List ℕ → Intake
with_octets max l = record { octets = l; max = max; is_broken = false }

-- two pieces are one
one_piece : (piece more octets : List ℕ) (max : ℕ) (b : Bool) →
    fed_intake more (fed_intake piece (record { octets = octets; max = max; is_broken = b }))
    ≡ fed_intake (piece ++ more) (record { octets = octets; max = max; is_broken = b })
one_piece piece more octets max true = refl
one_piece piece more octets max false = ap (with_octets max) (append_assoc octets piece more)

both_fed : (piece more : List ℕ) (o : Option Intake) →
    option_map (fed_intake more) (option_map (fed_intake piece) o) ≡ option_map (fed_intake (piece ++ more)) o
both_fed piece more None = refl
both_fed piece more (Some i) = ap (λ v. Some v) (one_piece piece more i.octets i.max i.is_broken)

fed_twice_at : (piece more : List ℕ) (e : Bool) (o : Option Intake) →
    cond e (option_map (fed_intake more) (cond e (option_map (fed_intake piece) o) o))
    (cond e (option_map (fed_intake piece) o) o)
    ≡ cond e (option_map (fed_intake (piece ++ more)) o) o
fed_twice_at piece more true o = both_fed piece more o
fed_twice_at piece more false o = refl

pub fed_twice : (c : Conn) (piece more : List ℕ) (s : NodeState) →
    node_fed c more (node_fed c piece s) ≡ node_fed c (piece ++ more) s
fed_twice c piece more s =
    ap (λ f. with_node_intakes f s) (fun_ext (λ d. fed_twice_at piece more (nat_eq c.0 d) (s.intakes d)))

-- a piece of no octets
nothing_fed : (o : Option Intake) → option_map (fed_intake []) o ≡ o
nothing_fed None = refl
nothing_fed (Some i) = ap (λ v. Some v) (whole i.octets i.max i.is_broken)
  where
    whole : (octets : List ℕ) (max : ℕ) (b : Bool) →
        fed_intake [] (record { octets = octets; max = max; is_broken = b })
        ≡ record { octets = octets; max = max; is_broken = b }
    whole octets max true = refl
    whole octets max false = ap (with_octets max) (append-nil octets)

nothing_fed_at : (e : Bool) (o : Option Intake) → cond e (option_map (fed_intake []) o) o ≡ o
nothing_fed_at true o = nothing_fed o
nothing_fed_at false o = refl

pub fed_nothing : (c : Conn) (s : NodeState) → node_fed c [] s ≡ s
fed_nothing c s = ap (λ f. with_node_intakes f s) (fun_ext (λ d. nothing_fed_at (nat_eq c.0 d) (s.intakes d)))

-- a piece and a greater maximum
fed_and_max : (more octets : List ℕ) (m max : ℕ) (b : Bool) →
    fed_intake more (with_max m (record { octets = octets; max = max; is_broken = b }))
    ≡ with_max m (fed_intake more (record { octets = octets; max = max; is_broken = b }))
fed_and_max more octets m max true = refl
fed_and_max more octets m max false = refl

fed_and_raised_at : (more : List ℕ) (m : ℕ) (e x : Bool) (o : Option Intake) →
    cond e (option_map (fed_intake more) (cond x (option_map (with_max m) o) o)) (cond x (option_map (with_max m) o) o)
    ≡ cond x (option_map (with_max m) (cond e (option_map (fed_intake more) o) o))
    (cond e (option_map (fed_intake more) o) o)
fed_and_raised_at more m true true None = refl
fed_and_raised_at more m true true (Some i) = ap (λ v. Some v) (fed_and_max more i.octets m i.max i.is_broken)
fed_and_raised_at more m true false o = refl
fed_and_raised_at more m false true o = refl
fed_and_raised_at more m false false o = refl

fed_and_raised : (k : ℕ) (more : List ℕ) (m : ℕ) (c : Option Conn) (f : Intakes) →
    changed k (fed_intake more) (raised_at m c f) ≡ raised_at m c (changed k (fed_intake more) f)
fed_and_raised k more m c f = fun_ext (λ d. fed_and_raised_at more m (nat_eq k d) (is_conn_number d c) (f d))

-- a piece and a connection's own change, and what is closed
fed_and_left_at : (more : List ℕ) (i j : Intake) (e z : Bool) (o : Option Intake) → fed_intake more i ≡ j →
    cond e (option_map (fed_intake more) (cond z None (cond e (Some i) o))) (cond z None (cond e (Some i) o))
    ≡ cond z None (cond e (Some j) (cond e (option_map (fed_intake more) o) o))
fed_and_left_at more i j true true o is = refl
fed_and_left_at more i j true false o is = ap (λ v. Some v) is
fed_and_left_at more i j false true o is = refl
fed_and_left_at more i j false false o is = refl

fed_and_left : (k : ℕ) (more : List ℕ) (i j : Intake) (actions : List Action) (f : Intakes) → fed_intake more i ≡ j →
    changed k (fed_intake more) (left_by actions (with_intake k (Some i) f))
    ≡ left_by actions (with_intake k (Some j) (changed k (fed_intake more) f))
fed_and_left k more i j actions f is =
    fun_ext (λ d. fed_and_left_at more i j (nat_eq k d) (actions_close actions d) (f d) is)

-- whoever it concerned
fed_behind : (k : ℕ) (more : List ℕ) (m : ℕ) (p : Option Peer) (f g : Intakes) → changed k (fed_intake more) f ≡ g →
    changed k (fed_intake more) (raised_for m p f) ≡ raised_for m p g
fed_behind k more m None f g is = is
fed_behind k more m (Some p) f g is = by (is_open p.standing.core.state)
  where
    by : (b : Bool) →
        changed k (fed_intake more) (cond b (raised_at m (other_of p) (raised_at m (own_of p) f)) f)
        ≡ cond b (raised_at m (other_of p) (raised_at m (own_of p) g)) g
    by true =
        fed_and_raised k more m (other_of p) (raised_at m (own_of p) f)
        ∙ ap (raised_at m (other_of p)) (fed_and_raised k more m (own_of p) f ∙ ap (raised_at m (own_of p)) is)
    by false = is

-- a piece that comes behind a turn might have come before it
pub fed_settled : (c : Conn) (more : List ℕ) (i j : Intake) (who : Option ℕ) (qs : List (Option Peer))
    (actions : List Action) (s : NodeState) → fed_intake more i ≡ j →
    node_fed c more (node_settled who qs actions (with_node_intakes (with_intake c.0 (Some i) s.intakes) s))
    ≡ node_settled who qs actions
    (with_node_intakes (with_intake c.0 (Some j) (node_fed c more s).intakes) (node_fed c more s))
fed_settled c more i j who qs actions s is =
    ap (node_at s qs)
    (fed_behind c.0 more s.most (concerned_in qs who) _ _ (fed_and_left c.0 more i j actions s.intakes is))

-- the intake with a piece more
abbrev pub longer : List ℕ → Intake → Intake
longer more i = record { octets = i.octets ++ more; max = i.max; is_broken = i.is_broken }

pub fed_whole : (more : List ℕ) (i : Intake) → i.is_broken ≡ false → fed_intake more i ≡ longer more i
fed_whole more i e = ap (λ b. cond b i (longer more i)) e

pub there_fed : (c : Conn) (more : List ℕ) (s : NodeState) (i : Intake) → s.intakes c.0 ≡ Some i →
    i.is_broken ≡ false → (node_fed c more s).intakes c.0 ≡ Some (longer more i)
there_fed c more s i there e =
    ap (λ b. cond b (option_map (fed_intake more) (s.intakes c.0)) (s.intakes c.0)) (eq-eqb c.0 c.0 refl)
    ∙ ap (option_map (fed_intake more)) there ∙ ap (λ v. Some v) (fed_whole more i e)

module _ (policy : Policy) (c : Conn) (more : List ℕ) where
  message_fed : (s t : NodeState) (answer : NodeAnswer) → NodeTellsMessage policy c s answer t →
      NodeTellsMessage policy c (node_fed c more s) answer (node_fed c more t)
  message_fed s t answer h =
      let i = h.intake in
      let rest : Intake = record { octets = h.rest; max = i.max; is_broken = i.is_broken } in
      record {
        intake = longer more i;
        message = h.message;
        rest = h.rest ++ more;
        there = there_fed c more s i h.there h.first.whole;
        first = record {
          whole = h.first.whole;
          frame = h.first.frame;
          octets = ap (λ l. l ++ more) h.first.octets ∙ append_assoc h.message h.rest more;
        };
        told = record {
          peers = h.told.peers;
          moved = h.told.moved;
          left = ap (node_fed c more) h.told.left
              ∙ fed_settled c more rest (longer more rest) answer.neighbour h.told.peers answer.actions s
              (fed_whole more rest h.first.whole);
        };
      }

  pub next_fed : FaultStands → (arrived : Option Conn) (s t : NodeState) (answer : NodeAnswer) →
      NodeTellsAs policy arrived c s answer t →
      NodeTellsAs policy arrived c (node_fed c more s) answer (node_fed c more t)
  next_fed stands None s t answer h =
      let i = h.intake in
      record {
        intake = longer more i;
        there = there_fed c more s i h.there h.faulty.whole;
        faulty = record {
          whole = h.faulty.whole;
          fault = (h.faulty.fault.0, stands i.max i.octets more h.faulty.fault.0 h.faulty.fault.1);
        };
        told = record {
          peers = h.told.peers;
          moved = h.told.moved;
          left = ap (node_fed c more) h.told.left
              ∙ fed_settled c more (broken_intake i) (broken_intake i) answer.neighbour h.told.peers answer.actions s
              refl;
        };
      }
  next_fed stands (Some d) s t answer h = (h.0, message_fed s t answer h.1)

  along : FaultStands → (s m t : NodeState) (first others : List NodeTurn) → NodeTellsAlong policy c s first m →
      NodeTellsAlong policy c (node_fed c more m) others t →
      NodeTellsAlong policy c (node_fed c more s) (first ++ others) t
  along stands s m t [] others h k = subst (λ v. NodeTellsAlong policy c (node_fed c more v) others t) (sym h) k
  along stands s m t (turn ∷ first) others h k = (
    node_fed c more h.0,
    next_fed stands turn.arrived s h.0 turn.answer h.1,
    along stands h.0 m t first others h.2 k,
  )

pub cuts_alike : FaultStands → NodeCutsAlike
cuts_alike stands policy c piece more s m t first others h k =
    subst (λ v. NodeTellsAlong policy c v (first ++ others) t) (fed_twice c piece more s)
    (along policy c more stands (node_fed c piece s) m t first others h k)
