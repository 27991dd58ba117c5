-- What an Ack of either link comes to in each phase of a clean run.
use Rattle.std.proofs.Common.{◌≡◌, ℕ, true, false, []}
use Rattle.std.proofs.Common.{refl}
use Rattle.std.specs.Prelude.{option_map}
use Rattle.dm_two_peers.specs.Links.{Side, opens}
use Rattle.dm_two_peers.specs.Peers.{Peers}
use Rattle.dm_two_peers.specs.Worlds.{World, peer_on}
use Rattle.dm_two_peers.specs.Electing.{Talks, IsElecting}
use Rattle.dm_two_peers.proofs.Pairs.{IsPair, ab, ba, swapped, mirror}
use Rattle.dm_two_peers.proofs.Acting.{own_at, acks_plain, acks_lose, acks_win}
use Rattle.dm_two_peers.proofs.Phases.{Phase, C1, C2, C3, C4, C5, C6, C7, C8, C9, C10, C11, C12, C13, C14, C15, C16, C17}
use Rattle.dm_two_peers.proofs.Phases.{C18, C19, C20, C21, C22, C23, C24, C25, node_g, node_l, stage_g, stage_l}
use Rattle.dm_two_peers.proofs.Phases.{as_before, greater_first, other_first, InPhase, Went}
use Rattle.dm_two_peers.proofs.Phasing.{acked, idle_ack, flip_in}
use Rattle.dm_two_peers.proofs.Phasing.{went_own, went_other}

pub self_opens : (g l : Side) → IsPair g l → opens g g ≡ true
self_opens g l ab = refl
self_opens g l ba = refl

pub other_opens : (g l : Side) → IsPair g l → opens l g ≡ false
other_opens g l ab = refl
other_opens g l ba = refl

module _ {P M C H : Type 0} (m : Peers P M) (t : Talks P M C H) where
  -- an Ack of the greater side's link, and of the other's
  pub ack_g : IsElecting m t → (g l : Side) → IsPair g l → t.wins g ≡ true → t.wins l ≡ false →
      (w : World P M) (k : Phase) (x y : ℕ) → (q : InPhase m t g l w k x y) →
      Went m t g l k x y q.h q.h' 1 (acked m g x w (own_at m t g l (stage_g k) q.h q.i q.j)) [] []
  ack_g el g l pair wins loses w C1 x y q = idle_ack m t g l C1 x y g l x w (stage_g C1) q.h q.i q.j refl
  ack_g el g l pair wins loses w C2 x y q =
      went_own m t g l C2 C4 x y (t.next_of (peer_on g w)) q.h' q.i q.j q.i' q.j' as_before _ _
      (acks_plain m t el g l pair w x y q.i q.j
      (option_map mirror (own_at m t l g (stage_l C2) q.h' q.i' q.j')) (node_l C2 x y) q.h q.h' q.at refl)
      refl refl refl refl refl
  ack_g el g l pair wins loses w C3 x y q = idle_ack m t g l C3 x y g l x w (stage_g C3) q.h q.i q.j refl
  ack_g el g l pair wins loses w C4 x y q = idle_ack m t g l C4 x y g l x w (stage_g C4) q.h q.i q.j refl
  ack_g el g l pair wins loses w C5 x y q = idle_ack m t g l C5 x y g l x w (stage_g C5) q.h q.i q.j refl
  ack_g el g l pair wins loses w C6 x y q = idle_ack m t g l C6 x y g l x w (stage_g C6) q.h q.i q.j refl
  ack_g el g l pair wins loses w C7 x y q = idle_ack m t g l C7 x y g l x w (stage_g C7) q.h q.i q.j refl
  ack_g el g l pair wins loses w C8 x y q = idle_ack m t g l C8 x y g l x w (stage_g C8) q.h q.i q.j refl
  ack_g el g l pair wins loses w C9 x y q = idle_ack m t g l C9 x y g l x w (stage_g C9) q.h q.i q.j refl
  ack_g el g l pair wins loses w C10 x y q =
      went_own m t g l C10 C11 x y (t.next_of (peer_on g w)) q.h' q.i q.j q.i' q.j' as_before _ _
      (acks_plain m t el g l pair w x y q.i q.j
      (option_map mirror (own_at m t l g (stage_l C10) q.h' q.i' q.j')) (node_l C10 x y) q.h q.h' q.at refl)
      refl refl refl refl refl
  ack_g el g l pair wins loses w C11 x y q = idle_ack m t g l C11 x y g l x w (stage_g C11) q.h q.i q.j refl
  ack_g el g l pair wins loses w C12 x y q =
      went_own m t g l C12 C15 x y (t.next_of (peer_on g w)) q.h' q.i q.j q.i' q.j' other_first _ _
      (acks_plain m t el g l pair w x y q.i q.j
      (option_map mirror (own_at m t l g (stage_l C12) q.h' q.i' q.j')) (node_l C12 x y) q.h q.h' q.at refl)
      refl refl refl refl refl
  ack_g el g l pair wins loses w C13 x y q = idle_ack m t g l C13 x y g l x w (stage_g C13) q.h q.i q.j refl
  ack_g el g l pair wins loses w C14 x y q =
      went_own m t g l C14 C17 x y (t.next_of (peer_on g w)) q.h' q.i q.j q.i' q.j' other_first _ _
      (acks_win m t el g l pair wins w x y q.i q.j q.i' q.j' (node_l C14 x y) q.h q.h' q.at refl)
      refl refl refl refl refl
  ack_g el g l pair wins loses w C15 x y q = idle_ack m t g l C15 x y g l x w (stage_g C15) q.h q.i q.j refl
  ack_g el g l pair wins loses w C16 x y q = idle_ack m t g l C16 x y g l x w (stage_g C16) q.h q.i q.j refl
  ack_g el g l pair wins loses w C17 x y q = idle_ack m t g l C17 x y g l x w (stage_g C17) q.h q.i q.j refl
  ack_g el g l pair wins loses w C18 x y q = idle_ack m t g l C18 x y g l x w (stage_g C18) q.h q.i q.j refl
  ack_g el g l pair wins loses w C19 x y q = idle_ack m t g l C19 x y g l x w (stage_g C19) q.h q.i q.j refl
  ack_g el g l pair wins loses w C20 x y q = idle_ack m t g l C20 x y g l x w (stage_g C20) q.h q.i q.j refl
  ack_g el g l pair wins loses w C21 x y q = idle_ack m t g l C21 x y g l x w (stage_g C21) q.h q.i q.j refl
  ack_g el g l pair wins loses w C22 x y q = idle_ack m t g l C22 x y g l x w (stage_g C22) q.h q.i q.j refl
  ack_g el g l pair wins loses w C23 x y q = idle_ack m t g l C23 x y g l x w (stage_g C23) q.h q.i q.j refl
  ack_g el g l pair wins loses w C24 x y q = idle_ack m t g l C24 x y g l x w (stage_g C24) q.h q.i q.j refl
  ack_g el g l pair wins loses w C25 x y q = idle_ack m t g l C25 x y g l x w (stage_g C25) q.h q.i q.j refl

  pub ack_l : IsElecting m t → (g l : Side) → IsPair g l → t.wins g ≡ true → t.wins l ≡ false →
      (w : World P M) (k : Phase) (x y : ℕ) → (q : InPhase m t g l w k x y) →
      Went m t g l k x y q.h q.h' 1 (acked m l y w (own_at m t l g (stage_l k) q.h' q.i' q.j')) [] []
  ack_l el g l pair wins loses w C1 x y q = idle_ack m t g l C1 x y l g y w (stage_l C1) q.h' q.i' q.j' refl
  ack_l el g l pair wins loses w C2 x y q = idle_ack m t g l C2 x y l g y w (stage_l C2) q.h' q.i' q.j' refl
  ack_l el g l pair wins loses w C3 x y q =
      went_other m t g l C3 C5 x y q.h (t.next_of (peer_on l w)) q.i q.j q.i' q.j' as_before _ _
      (acks_plain m t el l g (swapped pair) w y x q.i' q.j'
      (option_map mirror (own_at m t g l (stage_g C3) q.h q.i q.j)) (node_g C3 x y) q.h' q.h
      (flip_in m t g l w C3 x y q) refl) refl refl refl refl refl
  ack_l el g l pair wins loses w C4 x y q = idle_ack m t g l C4 x y l g y w (stage_l C4) q.h' q.i' q.j' refl
  ack_l el g l pair wins loses w C5 x y q = idle_ack m t g l C5 x y l g y w (stage_l C5) q.h' q.i' q.j' refl
  ack_l el g l pair wins loses w C6 x y q = idle_ack m t g l C6 x y l g y w (stage_l C6) q.h' q.i' q.j' refl
  ack_l el g l pair wins loses w C7 x y q = idle_ack m t g l C7 x y l g y w (stage_l C7) q.h' q.i' q.j' refl
  ack_l el g l pair wins loses w C8 x y q = idle_ack m t g l C8 x y l g y w (stage_l C8) q.h' q.i' q.j' refl
  ack_l el g l pair wins loses w C9 x y q = idle_ack m t g l C9 x y l g y w (stage_l C9) q.h' q.i' q.j' refl
  ack_l el g l pair wins loses w C10 x y q =
      went_other m t g l C10 C12 x y q.h (t.next_of (peer_on l w)) q.i q.j q.i' q.j' as_before _ _
      (acks_plain m t el l g (swapped pair) w y x q.i' q.j'
      (option_map mirror (own_at m t g l (stage_g C10) q.h q.i q.j)) (node_g C10 x y) q.h' q.h
      (flip_in m t g l w C10 x y q) refl) refl refl refl refl refl
  ack_l el g l pair wins loses w C11 x y q =
      went_other m t g l C11 C15 x y q.h (t.next_of (peer_on l w)) q.i q.j q.i' q.j' greater_first _ _
      (acks_plain m t el l g (swapped pair) w y x q.i' q.j'
      (option_map mirror (own_at m t g l (stage_g C11) q.h q.i q.j)) (node_g C11 x y) q.h' q.h
      (flip_in m t g l w C11 x y q) refl) refl refl refl refl refl
  ack_l el g l pair wins loses w C12 x y q = idle_ack m t g l C12 x y l g y w (stage_l C12) q.h' q.i' q.j' refl
  ack_l el g l pair wins loses w C13 x y q =
      went_other m t g l C13 C16 x y q.h (t.next_of (peer_on l w)) q.i q.j q.i' q.j' greater_first _ _
      (acks_lose m t el l g (swapped pair) loses w y x q.i' q.j'
      (option_map mirror (own_at m t g l (stage_g C13) q.h q.i q.j)) (node_g C13 x y) q.h' q.h
      (flip_in m t g l w C13 x y q) refl) refl refl refl refl refl
  ack_l el g l pair wins loses w C14 x y q = idle_ack m t g l C14 x y l g y w (stage_l C14) q.h' q.i' q.j' refl
  ack_l el g l pair wins loses w C15 x y q = idle_ack m t g l C15 x y l g y w (stage_l C15) q.h' q.i' q.j' refl
  ack_l el g l pair wins loses w C16 x y q = idle_ack m t g l C16 x y l g y w (stage_l C16) q.h' q.i' q.j' refl
  ack_l el g l pair wins loses w C17 x y q = idle_ack m t g l C17 x y l g y w (stage_l C17) q.h' q.i' q.j' refl
  ack_l el g l pair wins loses w C18 x y q = idle_ack m t g l C18 x y l g y w (stage_l C18) q.h' q.i' q.j' refl
  ack_l el g l pair wins loses w C19 x y q = idle_ack m t g l C19 x y l g y w (stage_l C19) q.h' q.i' q.j' refl
  ack_l el g l pair wins loses w C20 x y q = idle_ack m t g l C20 x y l g y w (stage_l C20) q.h' q.i' q.j' refl
  ack_l el g l pair wins loses w C21 x y q = idle_ack m t g l C21 x y l g y w (stage_l C21) q.h' q.i' q.j' refl
  ack_l el g l pair wins loses w C22 x y q = idle_ack m t g l C22 x y l g y w (stage_l C22) q.h' q.i' q.j' refl
  ack_l el g l pair wins loses w C23 x y q = idle_ack m t g l C23 x y l g y w (stage_l C23) q.h' q.i' q.j' refl
  ack_l el g l pair wins loses w C24 x y q = idle_ack m t g l C24 x y l g y w (stage_l C24) q.h' q.i' q.j' refl
  ack_l el g l pair wins loses w C25 x y q = idle_ack m t g l C25 x y l g y w (stage_l C25) q.h' q.i' q.j' refl
