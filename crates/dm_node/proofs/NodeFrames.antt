-- What is told of a stream is its frames.
use Rattle.std.proofs.Common.{◌≡◌, ℕ, Bool, true, false, cond, Option, None, Some, IfSome, List, [], ◌∷◌, ◌++◌, refl, sym, ap, ◌∙◌, subst, append_assoc}
use Rattle.std.proofs.lemmas.Bool.{eq-eqb}
use Rattle.std.specs.List.{concat}
use Rattle.std.specs.Option.{option_map}
use Rattle.dm_base.specs.declared.node.Node.{Node}
use Rattle.dm_framer.specs.declared.fault.FrameFault.{FrameFault}
use Rattle.dm_framer.specs.Frames.{HasFault, IsPartial, Framed}
use Rattle.dm_framer.specs.Laws.{OneFront, FrameOrFault}
use Rattle.dm_machine.specs.declared.connection.Conn.{Conn}
use Rattle.dm_peer.specs.declared.actions.Action.{Action}
use Rattle.dm_peer.specs.declared.peer.Peer.{Peer}
use Rattle.dm_slots.specs.Intakes.{Intake, IsFirst, IsFaulty, IsToldOut, with_intake, with_max, actions_close, left_by, broken_intake, new_intake}
use Rattle.dm_node.specs.NodeFrames.{OctetsLead, FramesAreTold, StreamsAreToldByFrames}
use Rattle.dm_node.specs.NodeStates.{NodeState, NodeAnswer, NodeTurn, NodeTellsOctets, NodeTellsMessage, NodeTellsFault, NodeTellsAs, NodeIsOut, node_settled, with_node_intakes, concerned_in, node_fed}
use Rattle.dm_node.specs.NodeStreams.{NodeTellsAlong}
use Rattle.dm_node.specs.Policies.{Policy}
use Rattle.dm_node.specs.Strangers.{NodeMoves}
use Rattle.dm_node.proofs.Basics.{one_inside, two_truths}
use Rattle.dm_node.proofs.NodeCuts.{there_fed}
use Rattle.dm_node.proofs.NodeStaying.{raised_keeps}

-- of a connection that isn't there, or whose fault was told, nothing is told
abbrev IsSilent : Option Intake → Type 0
IsSilent o = IfSome o (λ i. i.is_broken ≡ true)

silent_tells_nothing : (policy : Policy) (x : Option Conn) (c : Conn) (s t : NodeState) (a : NodeAnswer) →
    IsSilent (s.intakes c.0) → NodeTellsAs policy x c s a t → ⊥
silent_tells_nothing policy None c s t a silent h =
    two_truths h.intake.is_broken (subst IsSilent h.there silent) h.faulty.whole
silent_tells_nothing policy (Some d) c s t a silent h =
    two_truths h.1.intake.is_broken (subst IsSilent h.1.there silent) h.1.first.whole

silent_stays : (policy : Policy) (c : Conn) (s t : NodeState) (turns : List NodeTurn) → IsSilent (s.intakes c.0) →
    NodeTellsAlong policy c s turns t → (turns ≡ []) × (s ≡ t)
silent_stays policy c s t [] silent h = (refl, h)
silent_stays policy c s t (turn ∷ turns) silent h =
    absurd (silent_tells_nothing policy turn.arrived c s h.0 turn.answer silent h.1)

-- what a turn leaves of its connection, which takes the longest messages already
left_at : (c : Conn) (i : Intake) (who : Option ℕ) (qs : List (Option Peer)) (actions : List Action) (s : NodeState) →
    i.max ≡ s.most → (node_settled who qs actions (with_node_intakes (with_intake c.0 (Some i) s.intakes) s)).intakes c.0
    ≡ cond (actions_close actions c.0) None (Some i)
left_at c i who qs actions s is =
    raised_keeps (λ o. o ≡ cond (actions_close actions c.0) None (Some i)) s.most c.0
    (λ o e. ap (option_map (with_max s.most)) e ∙ same (actions_close actions c.0)) (concerned_in qs who)
    (left_by actions (with_intake c.0 (Some i) s.intakes))
    (ap (λ b. cond (actions_close actions c.0) None (cond b (Some i) (s.intakes c.0))) (eq-eqb c.0 c.0 refl))
  where
    same : (b : Bool) → option_map (with_max s.most) (cond b None (Some i)) ≡ cond b None (Some i)
    same true = refl
    same false = ap (λ m. Some (with_max m i)) (sym is)

-- a connection with these octets kept, which takes the longest messages
abbrev kept : ℕ → List ℕ → Intake
kept most octets = record { octets = octets; max = most; is_broken = false }

record Stands (c : Conn) (n : Node) (most : ℕ) (octets : List ℕ) (s : NodeState) : Type 0 where
  pub node : s.node ≡ n
  pub longest : s.most ≡ most
  pub there : s.intakes c.0 ≡ Some (kept most octets)

-- a stream of connection c, behind whose frames this rest stands, and how a policy tells it to a node that is n
module _ (policy : Policy) (n : Node) (c : Conn) (most : ℕ) (rest : List ℕ) where
  -- of frames that stand at a stream's front the first
  first_frame : (octets frame : List ℕ) (frames : List (List ℕ)) (fault : Option FrameFault) →
      Framed most octets (frame ∷ frames) rest fault → octets ≡ frame ++ (concat frames ++ rest)
  first_frame octets frame frames fault h = h.whole ∙ append_assoc frame (concat frames) rest

  -- where nothing is left to tell
  none_left : (octets : List ℕ) (frames : List (List ℕ)) (fault : Option FrameFault) (ps : List (Option Peer)) →
      IsPartial most octets → Framed most octets frames rest fault → FramesAreTold policy n c frames fault ps [] ps
  none_left octets [] None ps part h = FramesAreTold.nothing_left ps
  none_left octets [] (Some fault) ps part h =
      absurd (part.no_fault fault (subst (λ l. HasFault most l fault) (sym h.whole) h.fault_is))
  none_left octets (frame ∷ frames) fault ps part h =
      absurd (part.no_frame frame (concat frames ++ rest) h.each.0 (first_frame octets frame frames fault h))

  -- what octets lead to, and what they leave of their connection
  led : (octets : List ℕ) (s m : NodeState) (a : NodeAnswer) → s.node ≡ n → NodeTellsOctets policy c octets s a m →
      OctetsLead policy n c octets s.peers a m.peers
  led octets s m a is h =
      subst (λ l. OctetsLead policy n c octets s.peers a l) (sym (ap (λ (v : NodeState). v.peers) h.left))
      (subst (λ k. NodeMoves policy c octets k s.peers a.neighbour a.actions h.peers) is h.moved)

  left_of : (octets : List ℕ) (i : Intake) (s m : NodeState) (a : NodeAnswer) → i.max ≡ s.most →
      NodeTellsOctets policy c octets (with_node_intakes (with_intake c.0 (Some i) s.intakes) s) a m →
      m.intakes c.0 ≡ cond (actions_close a.actions c.0) None (Some i)
  left_of octets i s m a is h =
      ap (λ (v : NodeState). v.intakes c.0) h.left ∙ left_at c i a.neighbour h.peers a.actions s is

  -- where a fault is told
  fault_left : FrameOrFault → (octets : List ℕ) (frames : List (List ℕ)) (fault : Option FrameFault)
      (ps qs : List (Option Peer)) (turn : NodeTurn) (found : FrameFault) → HasFault most octets found →
      Framed most octets frames rest fault → turn.arrived ≡ None → OctetsLead policy n c [] ps turn.answer qs →
      FramesAreTold policy n c frames fault ps (turn ∷ []) qs
  fault_left either octets [] None ps qs turn found has h arrived leads =
      absurd (h.fault_is found (subst (λ l. HasFault most l found) h.whole has))
  fault_left either octets [] (Some fault) ps qs turn found has h arrived leads =
      FramesAreTold.fault_told fault ps qs turn arrived leads
  fault_left either octets (frame ∷ frames) fault ps qs turn found has h arrived leads =
      absurd (either most frame (concat frames ++ rest) found h.each.0
      (subst (λ l. HasFault most l found) (first_frame octets frame frames fault h) has))

  -- what is told behind the first turn
  abbrev Behind : Option FrameFault → NodeState → List NodeTurn → NodeState → Type 0
  Behind fault m turns t =
      (l : List (List ℕ)) → Stands c n most (concat l ++ rest) m → Framed most (concat l ++ rest) l rest fault →
      FramesAreTold policy n c l fault m.peers turns t.peers

  -- a turn of a node on which these octets are kept
  module _ (octets : List ℕ) (fault : Option FrameFault) (s m t : NodeState) (turn : NodeTurn) (turns : List NodeTurn)
      (at : Stands c n most octets s) (along : NodeTellsAlong policy c m turns t) where
    fault_turn : FrameOrFault → (frames : List (List ℕ)) → Framed most octets frames rest fault → turn.arrived ≡ None →
        NodeTellsFault policy c s turn.answer m → FramesAreTold policy n c frames fault s.peers (turn ∷ turns) t.peers
    fault_turn either frames h arrived k =
        subst (λ l. FramesAreTold policy n c frames fault s.peers (turn ∷ l) t.peers) (sym ends.0)
        (fault_left either octets frames fault s.peers t.peers turn faulty.fault.0 faulty.fault.1 h arrived
        (subst (λ (v : NodeState). OctetsLead policy n c [] s.peers turn.answer v.peers) ends.1
        (led [] _ m turn.answer at.node k.told)))
      where
        same : kept most octets ≡ k.intake
        same = one_inside (s.intakes c.0) (kept most octets) k.intake at.there k.there

        faulty : IsFaulty (kept most octets)
        faulty = subst IsFaulty (sym same) k.faulty

        silent : (b : Bool) → IsSilent (cond b None (Some (broken_intake k.intake)))
        silent true = tt
        silent false = refl

        ends : (turns ≡ []) × (m ≡ t)
        ends =
            silent_stays policy c m t turns
            (subst IsSilent
            (sym (left_of [] (broken_intake k.intake) s m turn.answer
            (sym (ap (λ (i : Intake). i.max) same) ∙ sym at.longest) k.told))
            (silent (actions_close turn.answer.actions c.0))) along

    message_turn : OneFront → (frames : List (List ℕ)) → Framed most octets frames rest fault → turn.arrived ≡ Some c →
        NodeTellsMessage policy c s turn.answer m → Behind fault m turns t →
        FramesAreTold policy n c frames fault s.peers (turn ∷ turns) t.peers
    message_turn front [] h arrived k again =
        let first : IsFirst (kept most octets) k.message k.rest =
        subst (λ i. IsFirst i k.message k.rest)
        (sym (one_inside (s.intakes c.0) (kept most octets) k.intake at.there k.there)) k.first in
        absurd (h.longest k.message k.rest first.frame (sym h.whole ∙ first.octets))
    message_turn front (frame ∷ frames) h arrived k again = by (actions_close turn.answer.actions c.0) refl
      where
        same : kept most octets ≡ k.intake
        same = one_inside (s.intakes c.0) (kept most octets) k.intake at.there k.there

        first : IsFirst (kept most octets) k.message k.rest
        first = subst (λ i. IsFirst i k.message k.rest) (sym same) k.first

        one : (frame ≡ k.message) × (concat frames ++ rest ≡ k.rest)
        one =
            front most frame k.message (concat frames ++ rest) k.rest h.each.0 first.frame
            (sym (first_frame octets frame frames fault h) ∙ first.octets)

        lead : OctetsLead policy n c frame s.peers turn.answer m.peers
        lead =
            subst (λ l. OctetsLead policy n c l s.peers turn.answer m.peers) (sym one.0)
            (led k.message _ m turn.answer at.node k.told)

        left : (b : Bool) → actions_close turn.answer.actions c.0 ≡ b →
            m.intakes c.0 ≡ cond b None (Some (record k.intake { octets = k.rest }))
        left b is =
            left_of k.message (record k.intake { octets = k.rest }) s m turn.answer
            (sym (ap (λ (i : Intake). i.max) same) ∙ sym at.longest) k.told
            ∙ ap (λ x. cond x None (Some (record k.intake { octets = k.rest }))) is

        by : (b : Bool) → actions_close turn.answer.actions c.0 ≡ b →
            FramesAreTold policy n c (frame ∷ frames) fault s.peers (turn ∷ turns) t.peers
        by true closes =
            let ends = silent_stays policy c m t turns (subst IsSilent (sym (left true closes)) tt) along in
            subst (λ l. FramesAreTold policy n c (frame ∷ frames) fault s.peers (turn ∷ l) t.peers) (sym ends.0)
            (FramesAreTold.frame_closed frame frames fault s.peers t.peers turn arrived
            (subst (λ (v : NodeState). OctetsLead policy n c frame s.peers turn.answer v.peers) ends.1 lead) closes)
        by false stays =
            FramesAreTold.frame_told frame frames fault s.peers m.peers t.peers turn turns arrived lead stays
            (again frames
            (record {
              node = ap (λ (v : NodeState). v.node) k.told.left ∙ at.node;
              longest = ap (λ (v : NodeState). v.most) k.told.left ∙ at.longest;
              there = left false stays ∙ ap (λ (i : Intake). Some (record i { octets = k.rest })) (sym same)
                  ∙ ap (λ l. Some (kept most l)) (sym one.1);
            })
            (record { whole = refl; each = h.each.1; longest = h.longest; fault_is = h.fault_is }))

    one_turn : OneFront → FrameOrFault → (frames : List (List ℕ)) (x : Option Conn) →
        Framed most octets frames rest fault → turn.arrived ≡ x → NodeTellsAs policy x c s turn.answer m →
        Behind fault m turns t → FramesAreTold policy n c frames fault s.peers (turn ∷ turns) t.peers
    one_turn front either frames None h arrived k again = fault_turn either frames h arrived k
    one_turn front either frames (Some d) h arrived k again =
        message_turn front frames h (arrived ∙ ap (λ v. Some v) k.0) k.1 again

  told : OneFront → FrameOrFault → (turns : List NodeTurn) (octets : List ℕ) (frames : List (List ℕ))
      (fault : Option FrameFault) (s t : NodeState) → Stands c n most octets s → Framed most octets frames rest fault →
      NodeTellsAlong policy c s turns t → NodeIsOut c t → FramesAreTold policy n c frames fault s.peers turns t.peers
  told front either [] octets frames fault s t at h along out =
      subst (λ (v : NodeState). FramesAreTold policy n c frames fault s.peers [] v.peers) along
      (none_left octets frames fault s.peers
      (subst (λ o. IfSome o IsToldOut) at.there (subst (λ v. NodeIsOut c v) (sym along) out) refl) h)
  told front either (turn ∷ turns) octets frames fault s t at h along out =
      one_turn octets fault s along.0 t turn turns at along.2 front either frames turn.arrived h refl along.1
      (λ l stands framed. told front either turns (concat l ++ rest) l fault along.0 t stands framed along.2 out)

pub streams_told : OneFront → FrameOrFault → StreamsAreToldByFrames
streams_told front either policy c stream rest frames fault s t turns is h along out =
    told policy s.node c s.most rest front either turns stream frames fault (node_fed c stream s) t
    (record { node = refl; longest = refl; there = there_fed c stream s (new_intake s.most) is refl })
    h along out
