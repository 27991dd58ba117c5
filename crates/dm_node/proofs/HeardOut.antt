-- Where nothing was left to tell, nothing is left behind a turn but the rest of the piece.
use Rattle.std.proofs.Common.{◌≡◌, ◌≤◌, ◌+◌, ◌-◌, ℕ, zero, suc, false, cond, Option, None, Some, IfSome, List, [], ◌∷◌, ◌++◌, length, take, refl, sym, ap, ◌∙◌, subst, arith, length-append}
use Rattle.std.proofs.lemmas.Bool.{eq-eqb, cond_both}
use Rattle.std.proofs.lemmas.List.{append-nil, length-take-le, take-take}
use Rattle.std.proofs.Math.Seq.{take-append-add}
use Rattle.std.specs.Option.{option_map}
use Rattle.dm_framer.specs.Frames.{IsFrame, HasFault, IsPartial, BeginsWithNoFrame}
use Rattle.dm_framer.specs.declared.fault.FrameFault.{FrameFault}
use Rattle.dm_framer.specs.declared.fault.FrameFault.TheVariants.{BadVersion, BadLength, TooLong, NoMemory}
use Rattle.dm_machine.specs.declared.connection.Conn.{Conn}
use Rattle.dm_node.specs.Policies.{Policy}
use Rattle.dm_peer.specs.declared.actions.Action.{Action}
use Rattle.dm_peer.specs.declared.peer.Peer.{Peer}
use Rattle.dm_slots.specs.Hearing.{TakesFront, TakesFrontAt}
use Rattle.dm_slots.specs.Intakes.{Intake, IsFirst, IsToldOut, with_intake, with_max, fed_intake, broken_intake, actions_close, left_by}
use Rattle.dm_node.specs.NodeHearing.{NodeHeardOut}
use Rattle.dm_node.specs.NodeStates.{NodeState, NodeAnswer, NodeTellsAs, NodeIsOut, concerned_in, node_fed, node_settled, with_node_intakes}
use Rattle.dm_node.proofs.NodeCuts.{longer, fed_whole}
use Rattle.dm_node.proofs.Basics.{one_some}
use Rattle.dm_node.proofs.NodeStaying.{raised_keeps}
use Rattle.dm_node.proofs.NodeHeard.{at_itself, unbroken_before}

-- whatever the maximum is, nothing is to be told
abbrev IsOutAnyway : Option Intake → Type 0
IsOutAnyway o = IfSome o (λ i. (m : ℕ) → IsToldOut (with_max m i))

out_raised : (m : ℕ) (o : Option Intake) → IsOutAnyway o → IsOutAnyway (option_map (with_max m) o)
out_raised m None out = tt
out_raised m (Some i) out = λ k. out k

out_anyway : (o : Option Intake) → IsOutAnyway o → IfSome o IsToldOut
out_anyway None out = tt
out_anyway (Some i) out = out i.max

-- what is left of the connection, settled
out_settled : (c : Conn) (i : Intake) (who : Option ℕ) (qs : List (Option Peer)) (actions : List Action) (s t : NodeState) →
    ((m : ℕ) → IsToldOut (with_max m i)) →
    t ≡ node_settled who qs actions (with_node_intakes (with_intake c.0 (Some i) s.intakes) s) → NodeIsOut c t
out_settled c i who qs actions s t out is =
    let f = with_intake c.0 (Some i) s.intakes in
    let here : f c.0 ≡ Some i = ap (λ b. cond b (Some i) (s.intakes c.0)) (eq-eqb c.0 c.0 refl) in
    let first : IsOutAnyway (f c.0) = subst IsOutAnyway (sym here) out in
    subst (λ (v : NodeState). NodeIsOut c v) (sym is)
    (out_anyway _ (raised_keeps IsOutAnyway s.most c.0 (out_raised s.most) (concerned_in qs who) (left_by actions f)
    (cond_both (actions_close actions c.0) None (f c.0) IsOutAnyway (λ e. tt) (λ e. first))))

nothing_kept : (m : ℕ) → IsPartial m []
nothing_kept m = record { no_frame = none; no_fault = fine }
  where
    none : BeginsWithNoFrame m []
    none f r is at =
        let long = is.least in let parts : 0 ≡ length f + length r = ap length at ∙ length-append f r in
        omega (arith, long, parts)

    fine : (fault : FrameFault) → HasFault m [] fault → ⊥
    fine BadVersion h = let some = h.0 in omega (arith, some)
    fine BadLength h = let some = h.0 in omega (arith, some)
    fine TooLong h = let some = h.0 in omega (arith, some)
    fine NoMemory h = h

-- the octets before the last of those that were taken begin with the message, if it ends before these
begins_before : (max k : ℕ) (octets piece message : List ℕ) (x : ℕ) (xs : List ℕ) → suc k ≤ length piece →
    IsFrame max message → octets ++ take (suc k) piece ≡ message ++ (x ∷ xs) →
    BeginsWithNoFrame max (octets ++ take k piece) → ⊥
begins_before max k octets piece message x xs within frame is none =
    let all : length (take (suc k) piece) ≡ suc k = length-take-le (suc k) piece within in
    let long : length octets + suc k ≡ length message + suc (length xs) =
    ap (λ n. length octets + n) (sym all) ∙ sym (length-append octets (take (suc k) piece)) ∙ ap length is
    ∙ length-append message (x ∷ xs) in
    let more = length octets + k - length message in
    let front : octets ++ take k piece ≡ take (length octets + k) (octets ++ take (suc k) piece) =
    ap (λ l. octets ++ l) (sym (take-take k (suc k) piece (omega arith)))
    ∙ sym (take-append-add octets (take (suc k) piece) k) in
    let fits : length octets + k ≡ length message + more = omega (arith, long) in
    let split : octets ++ take k piece ≡ message ++ take more (x ∷ xs) =
    front ∙ ap (take (length octets + k)) is ∙ ap (λ n. take n (message ++ (x ∷ xs))) fits
    ∙ take-append-add message (x ∷ xs) more in
    none message (take more (x ∷ xs)) frame split

-- the message that was completed is all that is kept
none_behind : (i : Intake) (piece message rest : List ℕ) (size : ℕ) → TakesFront i piece size → i.is_broken ≡ false →
    IsPartial i.max i.octets → IsFrame i.max message → i.octets ++ take size piece ≡ message ++ rest → rest ≡ []
none_behind i piece message [] size taken whole out frame is = refl
none_behind i piece message (x ∷ xs) zero taken whole out frame is =
    absurd (out.no_frame message (x ∷ xs) frame (sym (append-nil i.octets) ∙ is))
none_behind i piece message (x ∷ xs) (suc k) taken whole out frame is =
    absurd (begins_before i.max k i.octets piece message x xs taken.within frame is (taken.least whole k (omega arith)))

-- what is kept of the message's connection, by what was kept before
module _ (c : Conn) (piece : List ℕ) (size : ℕ) (s : NodeState) (out : NodeIsOut c s)
    (taken : TakesFrontAt (s.intakes c.0) piece size) where
  rest_told : (i : Intake) (message rest : List ℕ) → (node_fed c (take size piece) s).intakes c.0 ≡ Some i →
      IsFirst i message rest → rest ≡ []
  rest_told i message rest there first =
      let here : option_map (fed_intake (take size piece)) (s.intakes c.0) ≡ Some i =
      sym (at_itself c (take size piece) s) ∙ there in
      let before = unbroken_before (take size piece) (s.intakes c.0) i here first.whole in
      let j = before.0 in
      let same : Some (fed_intake (take size piece) j) ≡ Some i =
      ap (option_map (fed_intake (take size piece))) (sym before.1) ∙ here in
      let one : TakesFront j piece size = subst (λ o. TakesFrontAt o piece size) before.1 taken in
      let told : IsToldOut j = subst (λ o. IfSome o IsToldOut) before.1 out in
      let moved : IsFirst (longer (take size piece) j) message rest =
      subst (λ v. IsFirst v message rest)
      (sym (one_some (fed_intake (take size piece) j) i same) ∙ fed_whole (take size piece) j before.2) first in
      none_behind j piece message rest size one before.2 (told before.2) moved.frame moved.octets

  told_as : (policy : Policy) (arrived : Option Conn) (answer : NodeAnswer) (t : NodeState) →
      NodeTellsAs policy arrived c (node_fed c (take size piece) s) answer t → NodeIsOut c t
  told_as policy None answer t h =
      out_settled c (broken_intake h.intake) answer.neighbour h.told.peers answer.actions
      (node_fed c (take size piece) s) t (λ m clash. absurd (cc clash)) h.told.left
  told_as policy (Some d) answer t (is, h) =
      let none = rest_told h.intake h.message h.rest h.there h.first in
      out_settled c (record h.intake { octets = h.rest }) answer.neighbour h.told.peers answer.actions
      (node_fed c (take size piece) s) t (λ m whole. subst (IsPartial m) (sym none) (nothing_kept m)) h.told.left

pub heard_out : NodeHeardOut
heard_out policy c piece size s t turn out taken h =
    told_as c piece size s out taken policy turn.arrived turn.answer t h
