-- In each phase of a clean run that doesn't rest some Ack or delivery is done.
use Rattle.std.proofs.Common.{◌≡◌, ℕ, true, false, List, slice_get, refl, ap, ◌∙◌, inl, inr, ◌⊎◌}
use Rattle.std.specs.Prelude.{option_map}
use Rattle.dm_two_peers.specs.Links.{Side, Coming, Delivered, link_of}
use Rattle.dm_two_peers.specs.Peers.{Peers}
use Rattle.dm_two_peers.specs.Worlds.{World, Put, DoneWith}
use Rattle.dm_two_peers.specs.Happens.{Happening, Acks, Delivers, at_link, happens}
use Rattle.dm_two_peers.specs.Electing.{Talks, IsElecting}
use Rattle.dm_two_peers.specs.Falling.{is_ack_or_delivery}
use Rattle.dm_two_peers.proofs.Pairs.{IsPair, swapped, mirror}
use Rattle.dm_two_peers.proofs.Stages.{Stage}
use Rattle.dm_two_peers.proofs.Acting.{own_at, acks_plain, acks_lose, acks_win, cer_closed, cer_lose, cer_win_late}
use Rattle.dm_two_peers.proofs.Acting.{cer_rejected, cea_plain, cea_returns}
use Rattle.dm_two_peers.proofs.Starting.{shut_own, shut_other}
use Rattle.dm_two_peers.proofs.Phases.{Phase, C1, C2, C3, C4, C5, C6, C7, C8, C9, C10, C11, C12, C13, C14, C15, C16, C17}
use Rattle.dm_two_peers.proofs.Phases.{C18, C19, C20, C21, C22, C23, C24, C25, node_g, node_l, stage_g, stage_l, InPhase}
use Rattle.dm_two_peers.proofs.Phasing.{acked, arrives, acked_own, arrives_own, arrives_other, flip_in}
use Rattle.dm_two_peers.proofs.Running.{ack_of, delivery_of}
use Rattle.dm_two_peers.proofs.Depths.{Rests, idle, only_g, only_l, both}

module _ {P M C H : Type 0} (m : Peers P M) (t : Talks P M C H) where
  -- an Ack or a delivery that is done
  pub record StepOnward (w : World P M) : Type 0 where
    pub h : Happening M
    pub passes : is_ack_or_delivery h ≡ true
    pub world : World P M
    pub put : List (Put M)
    pub is : happens m w h ≡ DoneWith world put

  onward_ack : (s o : Side) (w : World P M) (c : ℕ) (st : Stage) (h i j : ℕ) (world : World P M) (put : List (Put M)) →
      slice_get w.links c ≡ option_map (link_of true s) (own_at m t s o st h i j) →
      acked m s c w (own_at m t s o st h i j) ≡ DoneWith world put → StepOnward w
  onward_ack s o w c st h i j world put at e =
      record {
        h = Acks c;
        passes = refl;
        world = world;
        put = put;
        is = ap (λ q. at_link q (ack_of m c w)) at ∙ (acked_own m s c w (own_at m t s o st h i j) ∙ e);
      }

  onward_own : (s o : Side) → IsPair s o → (w : World P M) (c : ℕ) (st : Stage) (h i j : ℕ) (world : World P M)
      (put : List (Put M)) → slice_get w.links c ≡ option_map (link_of true s) (own_at m t s o st h i j) →
      arrives m s c w (own_at m t s o st h i j) ≡ DoneWith world put → StepOnward w
  onward_own s o pair w c st h i j world put at e =
      record {
        h = Delivers c s;
        passes = refl;
        world = world;
        put = put;
        is = ap (λ q. at_link q (delivery_of m c s w)) at ∙ (arrives_own m s o pair c w (own_at m t s o st h i j) ∙ e);
      }

  onward_other : (s o : Side) → IsPair s o → (w : World P M) (c : ℕ) (st : Stage) (h i j : ℕ) (world : World P M)
      (put : List (Put M)) →
      slice_get w.links c ≡ option_map (link_of false o) (option_map mirror (own_at m t o s st h i j)) →
      arrives m s c w (option_map mirror (own_at m t o s st h i j)) ≡ DoneWith world put → StepOnward w
  onward_other s o pair w c st h i j world put at e =
      record {
        h = Delivers c s;
        passes = refl;
        world = world;
        put = put;
        is = ap (λ q. at_link q (delivery_of m c s w)) at
            ∙ (arrives_other m s o pair c w (option_map mirror (own_at m t o s st h i j)) ∙ e);
      }

  -- it rests, or one is done
  pub onward : IsElecting m t → (g l : Side) → IsPair g l → t.wins g ≡ true → t.wins l ≡ false →
      (w : World P M) (k : Phase) (x y : ℕ) → (q : InPhase m t g l w k x y) → Rests k ⊎ StepOnward w
  onward el g l pair wins loses w C1 x y q = inl idle
  onward el g l pair wins loses w C2 x y q =
      let s = acks_plain m t el g l pair w x y q.i q.j
      (option_map mirror (own_at m t l g (stage_l C2) q.h' q.i' q.j')) (node_l C2 x y) q.h q.h' q.at refl in
      inr (onward_ack g l w x (stage_g C2) q.h q.i q.j s.world s.put q.at.at_x s.is)
  onward el g l pair wins loses w C3 x y q =
      let f = flip_in m t g l w C3 x y q in
      let s = acks_plain m t el l g (swapped pair) w y x q.i' q.j'
      (option_map mirror (own_at m t g l (stage_g C3) q.h q.i q.j)) (node_g C3 x y) q.h' q.h f refl in
      inr (onward_ack l g w y (stage_l C3) q.h' q.i' q.j' s.world s.put f.at_x s.is)
  onward el g l pair wins loses w C4 x y q =
      let f = flip_in m t g l w C4 x y q in
      let s = cer_closed m t el l g (swapped pair) w y x q.i q.j (own_at m t l g (stage_l C4) q.h' q.i' q.j')
      (node_g C4 x y) q.h' q.h f in
      inr (onward_other l g (swapped pair) w x (stage_g C4) q.h q.i q.j s.world s.put f.at_y s.is)
  onward el g l pair wins loses w C5 x y q =
      let s = cer_closed m t el g l pair w x y q.i' q.j' (own_at m t g l (stage_g C5) q.h q.i q.j)
      (node_l C5 x y) q.h q.h' q.at in
      inr (onward_other g l pair w y (stage_l C5) q.h' q.i' q.j' s.world s.put q.at.at_y s.is)
  onward el g l pair wins loses w C6 x y q =
      let s = cea_plain m t el g l pair w x y q.i q.j (option_map mirror (own_at m t l g (stage_l C6) q.h' q.i' q.j'))
      (node_l C6 x y) q.h q.h' q.at in
      inr (onward_own g l pair w x (stage_g C6) q.h q.i q.j s.world s.put q.at.at_x s.is)
  onward el g l pair wins loses w C7 x y q =
      let f = flip_in m t g l w C7 x y q in
      let s = cea_plain m t el l g (swapped pair) w y x q.i' q.j'
      (option_map mirror (own_at m t g l (stage_g C7) q.h q.i q.j)) (node_g C7 x y) q.h' q.h f in
      inr (onward_own l g (swapped pair) w y (stage_l C7) q.h' q.i' q.j' s.world s.put f.at_x s.is)
  onward el g l pair wins loses w C8 x y q = inl only_g
  onward el g l pair wins loses w C9 x y q = inl only_l
  onward el g l pair wins loses w C10 x y q =
      let s = acks_plain m t el g l pair w x y q.i q.j
      (option_map mirror (own_at m t l g (stage_l C10) q.h' q.i' q.j')) (node_l C10 x y) q.h q.h' q.at refl in
      inr (onward_ack g l w x (stage_g C10) q.h q.i q.j s.world s.put q.at.at_x s.is)
  onward el g l pair wins loses w C11 x y q =
      let f = flip_in m t g l w C11 x y q in
      let s = acks_plain m t el l g (swapped pair) w y x q.i' q.j'
      (option_map mirror (own_at m t g l (stage_g C11) q.h q.i q.j)) (node_g C11 x y) q.h' q.h f refl in
      inr (onward_ack l g w y (stage_l C11) q.h' q.i' q.j' s.world s.put f.at_x s.is)
  onward el g l pair wins loses w C12 x y q =
      let s = acks_plain m t el g l pair w x y q.i q.j
      (option_map mirror (own_at m t l g (stage_l C12) q.h' q.i' q.j')) (node_l C12 x y) q.h q.h' q.at refl in
      inr (onward_ack g l w x (stage_g C12) q.h q.i q.j s.world s.put q.at.at_x s.is)
  onward el g l pair wins loses w C13 x y q =
      let f = flip_in m t g l w C13 x y q in
      let s = acks_lose m t el l g (swapped pair) loses w y x q.i' q.j'
      (option_map mirror (own_at m t g l (stage_g C13) q.h q.i q.j)) (node_g C13 x y) q.h' q.h f refl in
      inr (onward_ack l g w y (stage_l C13) q.h' q.i' q.j' s.world s.put f.at_x s.is)
  onward el g l pair wins loses w C14 x y q =
      let s = acks_win m t el g l pair wins w x y q.i q.j q.i' q.j' (node_l C14 x y) q.h q.h' q.at refl in
      inr (onward_ack g l w x (stage_g C14) q.h q.i q.j s.world s.put q.at.at_x s.is)
  onward el g l pair wins loses w C15 x y q =
      let f = flip_in m t g l w C15 x y q in
      let s = cer_lose m t el l g (swapped pair) loses w y x q.i q.j (own_at m t l g (stage_l C15) q.h' q.i' q.j')
      (node_g C15 x y) q.h' q.h f in
      inr (onward_other l g (swapped pair) w x (stage_g C15) q.h q.i q.j s.world s.put f.at_y s.is)
  onward el g l pair wins loses w C16 x y q =
      let s = cer_win_late m t el g l pair wins w x y q.i q.j q.i' q.j' (node_l C16 x y) q.h q.h' q.at in
      inr (onward_other g l pair w y (stage_l C16) q.h' q.i' q.j' s.world s.put q.at.at_y s.is)
  onward el g l pair wins loses w C17 x y q =
      let f = flip_in m t g l w C17 x y q in
      let s = cea_plain m t el l g (swapped pair) w y x q.i' q.j'
      (option_map mirror (own_at m t g l (stage_g C17) q.h q.i q.j)) (node_g C17 x y) q.h' q.h f in
      inr (onward_own l g (swapped pair) w y (stage_l C17) q.h' q.i' q.j' s.world s.put f.at_x s.is)
  onward el g l pair wins loses w C18 x y q =
      let f = flip_in m t g l w C18 x y q in
      let s = cea_returns m t el l g (swapped pair) w y x q.i' q.j' q.i q.j (node_g C18 x y) q.h' q.h f in
      inr (onward_own l g (swapped pair) w y (stage_l C18) q.h' q.i' q.j' s.world s.put f.at_x s.is)
  onward el g l pair wins loses w C19 x y q =
      let f = flip_in m t g l w C19 x y q in
      let s = cer_rejected m t el l g (swapped pair) w y x q.i q.j (own_at m t l g (stage_l C19) q.h' q.i' q.j')
      (node_g C19 x y) q.h' q.h f in
      inr (onward_other l g (swapped pair) w x (stage_g C19) q.h q.i q.j s.world s.put f.at_y s.is)
  onward el g l pair wins loses w C20 x y q =
      let s = shut_own m t g l pair w x y q.i q.j (option_map mirror (own_at m t l g (stage_l C20) q.h' q.i' q.j'))
      (node_g C20 x y) (node_l C20 x y) q.h q.h' Delivered q.at in
      inr (onward_own g l pair w x (stage_g C20) q.h q.i q.j s.world s.put q.at.at_x s.is)
  onward el g l pair wins loses w C21 x y q =
      let s = shut_own m t g l pair w x y q.i q.j (option_map mirror (own_at m t l g (stage_l C21) q.h' q.i' q.j'))
      (node_g C21 x y) (node_l C21 x y) q.h q.h' Coming q.at in
      inr (onward_own g l pair w x (stage_g C21) q.h q.i q.j s.world s.put q.at.at_x s.is)
  onward el g l pair wins loses w C22 x y q =
      let f = flip_in m t g l w C22 x y q in
      let s = cea_plain m t el l g (swapped pair) w y x q.i' q.j'
      (option_map mirror (own_at m t g l (stage_g C22) q.h q.i q.j)) (node_g C22 x y) q.h' q.h f in
      inr (onward_own l g (swapped pair) w y (stage_l C22) q.h' q.i' q.j' s.world s.put f.at_x s.is)
  onward el g l pair wins loses w C23 x y q =
      let s = shut_own m t g l pair w x y q.i q.j (option_map mirror (own_at m t l g (stage_l C23) q.h' q.i' q.j'))
      (node_g C23 x y) (node_l C23 x y) q.h q.h' Delivered q.at in
      inr (onward_own g l pair w x (stage_g C23) q.h q.i q.j s.world s.put q.at.at_x s.is)
  onward el g l pair wins loses w C24 x y q =
      let f = flip_in m t g l w C24 x y q in
      let s = shut_other m t l g (swapped pair) w y x q.i q.j (own_at m t l g (stage_l C24) q.h' q.i' q.j')
      (node_l C24 x y) (node_g C24 x y) q.h' q.h Delivered f in
      inr (onward_other l g (swapped pair) w x (stage_g C24) q.h q.i q.j s.world s.put f.at_y s.is)
  onward el g l pair wins loses w C25 x y q = inl both
