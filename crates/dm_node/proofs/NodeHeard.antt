-- What is heard of a piece is told as if it had been kept first.
use Rattle.std.proofs.Common.{◌≡◌, ◌≤◌, ◌<◌, ◌⊎◌, inl, inr, ℕ, Bool, true, false, cond, nat_eq, Option, None, Some, IfSome, List, [], ◌++◌, length, take, drop, refl, sym, ap, ◌∙◌, subst, arith}
use Rattle.std.proofs.Math.Path.{fun_ext}
use Rattle.std.proofs.Math.Seq.{take-length}
use Rattle.std.proofs.lemmas.Bool.{eqb-true, eq-eqb, cases_lt}
use Rattle.std.proofs.lemmas.List.{append-nil, take-append-drop, length-take-le}
use Rattle.std.specs.Option.{option_map}
use Rattle.dm_framer.specs.Laws.{FaultStands}
use Rattle.dm_machine.specs.declared.connection.Conn.{Conn}
use Rattle.dm_node.specs.Policies.{Policy}
use Rattle.dm_node.specs.Strangers.{NodeMoves}
use Rattle.dm_peer.specs.declared.peer.Peer.{Peer}
use Rattle.dm_slots.specs.Acquaintances.{Acquaintance}
use Rattle.dm_slots.specs.Hearing.{IsWholeIn, IsWholeAt, IsNotWhole, TakesFront, TakesFrontAt}
use Rattle.dm_slots.specs.Intakes.{Intake, IsFirst, IsToldOut, with_intake, fed_intake}
use Rattle.dm_slots.specs.Staying.{TakingBackUndoes}
use Rattle.dm_node.specs.NodeHearing.{NodeHears, NodeHearsNothing, IsKeptFirst, NodeHeardAlike}
use Rattle.dm_node.specs.NodeKnown.{MeetsBy, NodeMeetsMessage, AwaitsExchangeAt}
use Rattle.dm_node.specs.NodeStates.{NodeState, NodeAnswer, NodeTellsNext, NodeIsOut, NodeNextTakesMemory, node_fed, node_unfed, node_settled, with_node_intakes}
use Rattle.dm_node.proofs.NodeCuts.{longer, fed_whole, there_fed, fed_twice, next_fed}

-- an intake of which all is told
abbrev emptied : Intake → Intake
emptied i = record { octets = []; max = i.max; is_broken = i.is_broken }

-- where nothing was kept, a message that came and went leaves nothing
came_and_went : (c : Conn) (message : List ℕ) (s : NodeState) (i : Intake) → s.intakes c.0 ≡ Some i →
    i.octets ≡ [] →
    with_node_intakes (with_intake c.0 (Some (emptied i)) (node_fed c message s).intakes) (node_fed c message s) ≡ s
came_and_went c message s i there none =
    ap (λ f. with_node_intakes f s) (fun_ext (λ d. at d (nat_eq c.0 d) refl))
  where
    at : (d : ℕ) (b : Bool) → nat_eq c.0 d ≡ b →
        cond b (Some (emptied i)) (cond b (option_map (fed_intake message) (s.intakes d)) (s.intakes d)) ≡ s.intakes d
    at d true e = ap (λ l. Some (record i { octets = l })) (sym none) ∙ sym there ∙ ap s.intakes (eqb-true c.0 d e)
    at d false e = refl

first_alone : (i : Intake) (message rest piece : List ℕ) → IsWholeIn i piece message rest →
    IsFirst (longer message i) message []
first_alone i message rest piece front = record {
  whole = front.whole;
  frame = front.frame;
  octets = ap (λ l. l ++ message) front.none_kept ∙ sym (append-nil message);
}

-- what is heard of a piece that begins with a whole message
pub heard_where_it_lies : (policy : Policy) (c : Conn) (piece : List ℕ) (s t : NodeState) (answer : NodeAnswer)
    (qs : List (Option Peer)) (size : ℕ) → IsWholeAt (s.intakes c.0) piece size →
    NodeMoves policy c (take size piece) s.node s.peers answer.neighbour answer.actions qs →
    t ≡ node_settled answer.neighbour qs answer.actions s →
    NodeHears policy c piece size s (record { arrived = Some c; answer = answer }) t
heard_where_it_lies policy c piece s t answer qs size h moved left =
    let message = take size piece in (
      refl,
      record {
        intake = longer message h.intake;
        message = message;
        rest = [];
        there = there_fed c message s h.intake h.there h.front.whole;
        first = first_alone h.intake message (drop size piece) piece h.front;
        told = record {
          peers = qs;
          moved = moved;
          left = left ∙ ap (node_settled answer.neighbour qs answer.actions)
              (sym (came_and_went c message s h.intake h.there h.front.none_kept));
        };
      },
    )

-- and whom it met
pub met_where_it_lies : (c : Conn) (piece : List ℕ) (s t : NodeState) (answer : NodeAnswer) (size : ℕ)
    (ks ls : List (Option Acquaintance)) → IsWholeAt (s.intakes c.0) piece size →
    MeetsBy c (take size piece) answer.neighbour s t ks ls →
    NodeMeetsMessage c (node_fed c (take size piece) s) answer t ks ls
met_where_it_lies c piece s t answer size ks ls h met = record {
  intake = longer (take size piece) h.intake;
  message = take size piece;
  rest = [];
  there = there_fed c (take size piece) s h.intake h.there h.front.whole;
  first = first_alone h.intake (take size piece) (drop size piece) piece h.front;
  known = met;
}

-- Octets that are kept first.

pub at_itself : (c : Conn) (l : List ℕ) (s : NodeState) →
    (node_fed c l s).intakes c.0 ≡ option_map (fed_intake l) (s.intakes c.0)
at_itself c l s =
    ap (λ b. cond b (option_map (fed_intake l) (s.intakes c.0)) (s.intakes c.0)) (eq-eqb c.0 c.0 refl)

pub taken_within : (o : Option Intake) (piece : List ℕ) (size : ℕ) → TakesFrontAt o piece size → size ≤ length piece
taken_within None piece size is = omega (arith, is)
taken_within (Some i) piece size is = is.within

not_told_out : (i : Intake) (piece : List ℕ) (size : ℕ) → TakesFront i piece size →
    IsToldOut (fed_intake (take size piece) i) → size < length piece → ⊥
not_told_out i piece size is out less = by i.is_broken refl where
  by : (b : Bool) → i.is_broken ≡ b → ⊥
  by true e = let all = is.thrown e in omega (arith, all, less)
  by false e =
      let told = subst IsToldOut (fed_whole (take size piece) i e) out in
      let front = is.front less in (told e).no_frame front.0 front.1 front.2 front.3

all_taken : (o : Option Intake) (piece : List ℕ) (size : ℕ) → TakesFrontAt o piece size →
    IfSome (option_map (fed_intake (take size piece)) o) IsToldOut → size ≡ length piece
all_taken None piece size is out = is
all_taken (Some i) piece size is out = elim (cases_lt size (length piece)) [
  | inl less ↦ absurd (not_told_out i piece size is out less)
  | inr least ↦ let within = is.within in omega (arith, least, within)
]

-- where nothing is told yet all of the piece was taken
pub nothing_heard : (c : Conn) (piece : List ℕ) (size : ℕ) (s r t : NodeState) →
    TakesFrontAt (s.intakes c.0) piece size → r ≡ node_fed c (take size piece) s → NodeIsOut c r → t ≡ r →
    NodeHearsNothing c piece size s t
nothing_heard c piece size s r t taken fed out same =
    let here = subst (λ (v : NodeState). IfSome (v.intakes c.0) IsToldOut) fed out in
    let all = all_taken (s.intakes c.0) piece size taken (subst (λ o. IfSome o IsToldOut) (at_itself c _ s) here) in
    let whole : take size piece ≡ piece = ap (λ n. take n piece) all ∙ take-length piece in (
      all,
      same ∙ fed ∙ ap (λ l. node_fed c l s) whole,
      subst (λ (v : NodeState). NodeIsOut c v) (sym same) out,
    )

-- what isn't thrown away behind a piece wasn't before it
pub unbroken_before : (l : List ℕ) (o : Option Intake) (i : Intake) → option_map (fed_intake l) o ≡ Some i →
    i.is_broken ≡ false → (j : Intake) × (o ≡ Some j) × (j.is_broken ≡ false)
unbroken_before l None i e whole = absurd (cc e)
unbroken_before l (Some j) i e whole = (j, refl, by j.is_broken refl) where
  is : fed_intake l j ≡ i
  is = cc

  by : (b : Bool) → j.is_broken ≡ b → b ≡ false
  by false b = refl
  by true b =
      let same : fed_intake l j ≡ j = ap (λ x. cond x j (longer l j)) b in
      sym b ∙ ap (λ (v : Intake). v.is_broken) (sym same ∙ is) ∙ whole

pub kept_before : (c : Conn) (piece l : List ℕ) (s r : NodeState) (i : Intake) → r ≡ node_fed c l s →
    r.intakes c.0 ≡ Some i → i.is_broken ≡ false → IfSome (s.intakes c.0) (λ j. IsNotWhole j piece) →
    IsKeptFirst c piece s
kept_before c piece l s r i fed there whole none =
    let before = unbroken_before l (s.intakes c.0) i
    (sym (ap (λ (v : NodeState). v.intakes c.0) fed ∙ at_itself c l s) ∙ there) whole in
    record {
      intake = before.0;
      there = before.1;
      whole = before.2;
      not_whole = subst (λ o. IfSome o (λ j. IsNotWhole j piece)) before.1 none;
    }

pub kept_next : (policy : Policy) (c : Conn) (piece l : List ℕ) (s r : NodeState) → r ≡ node_fed c l s →
    IfSome (s.intakes c.0) (λ j. IsNotWhole j piece) →
    NodeNextTakesMemory policy c r ⊎ AwaitsExchangeAt policy c r → IsKeptFirst c piece s
kept_next policy c piece l s r fed none (inl (inl (i, message, rest, there, first, wants))) =
    kept_before c piece l s r i fed there first.whole none
kept_next policy c piece l s r fed none (inl (inr (i, there, faulty, wants))) =
    kept_before c piece l s r i fed there faulty.whole none
kept_next policy c piece l s r fed none (inr copied) =
    kept_before c piece l s r copied.intake fed copied.there copied.first.whole none

-- what was taken is taken away again
pub taken_back : TakingBackUndoes → (c : Conn) (piece : List ℕ) (size : ℕ) (s : NodeState) →
    TakesFrontAt (s.intakes c.0) piece size → node_unfed c size (node_fed c (take size piece) s) ≡ s
taken_back undoes c piece size s taken =
    let many : length (take size piece) ≡ size = length-take-le size piece (taken_within (s.intakes c.0) piece size taken) in
    ap (λ n. node_unfed c n (node_fed c (take size piece) s)) (sym many)
    ∙ ap (λ f. with_node_intakes f s) (undoes c.0 (take size piece) s.intakes)

pub heard_alike : FaultStands → NodeHeardAlike
heard_alike stands policy c piece size s t turn h =
    let rest = drop size piece in
    let whole : node_fed c rest (node_fed c (take size piece) s) ≡ node_fed c piece s =
    fed_twice c (take size piece) rest s ∙ ap (λ l. node_fed c l s) (take-append-drop size piece) in
    subst (λ v. NodeTellsNext policy c v turn (node_fed c rest t)) whole
    (next_fed policy c rest stands turn.arrived (node_fed c (take size piece) s) t turn.answer h)
