-- What a delivery comes to in each phase of a clean run.
use Rattle.std.proofs.Common.{◌≡◌, ℕ, true, false, []}
use Rattle.std.proofs.Common.{refl}
use Rattle.std.specs.Prelude.{option_map}
use Rattle.dm_two_peers.specs.Links.{Side, Coming, Delivered}
use Rattle.dm_two_peers.specs.Peers.{Peers}
use Rattle.dm_two_peers.specs.Worlds.{World}
use Rattle.dm_two_peers.specs.Electing.{Talks, IsElecting}
use Rattle.dm_two_peers.proofs.Pairs.{IsPair, swapped, mirror}
use Rattle.dm_two_peers.proofs.Acting.{own_at, cer_closed, cer_wait, cer_lose, cer_late}
use Rattle.dm_two_peers.proofs.Acting.{cer_win, cer_win_late, cer_rejected, cea_plain, cea_returns, gone_returns}
use Rattle.dm_two_peers.proofs.Starting.{shut_own, shut_other}
use Rattle.dm_two_peers.proofs.Phases.{Phase, C1, C2, C3, C4, C5, C6, C7, C8, C9, C10, C11, C12, C13, C14, C15, C16, C17}
use Rattle.dm_two_peers.proofs.Phases.{C18, C19, C20, C21, C22, C23, C24, C25, node_g, node_l, stage_g, stage_l}
use Rattle.dm_two_peers.proofs.Phases.{as_before, InPhase, Went}
use Rattle.dm_two_peers.proofs.Phasing.{arrives, idle_own, idle_other, flip_in}
use Rattle.dm_two_peers.proofs.Phasing.{went_own, went_other}

module _ {P M C H : Type 0} (m : Peers P M) (t : Talks P M C H) where
  -- a delivery on the greater side's link, to it and to the other
  pub arrive_gg : IsElecting m t → (g l : Side) → IsPair g l → t.wins g ≡ true → t.wins l ≡ false →
      (w : World P M) (k : Phase) (x y : ℕ) → (q : InPhase m t g l w k x y) →
      Went m t g l k x y q.h q.h' 1 (arrives m g x w (own_at m t g l (stage_g k) q.h q.i q.j)) [] []
  arrive_gg el g l pair wins loses w C1 x y q = idle_own m t g l C1 x y g l x w (stage_g C1) q.h q.i q.j refl
  arrive_gg el g l pair wins loses w C2 x y q = idle_own m t g l C2 x y g l x w (stage_g C2) q.h q.i q.j refl
  arrive_gg el g l pair wins loses w C3 x y q = idle_own m t g l C3 x y g l x w (stage_g C3) q.h q.i q.j refl
  arrive_gg el g l pair wins loses w C4 x y q = idle_own m t g l C4 x y g l x w (stage_g C4) q.h q.i q.j refl
  arrive_gg el g l pair wins loses w C5 x y q = idle_own m t g l C5 x y g l x w (stage_g C5) q.h q.i q.j refl
  arrive_gg el g l pair wins loses w C6 x y q =
      went_own m t g l C6 C8 x y q.h q.h' 0 q.j q.i' q.j' as_before _ _
      (cea_plain m t el g l pair w x y q.i q.j (option_map mirror (own_at m t l g (stage_l C6) q.h' q.i' q.j'))
      (node_l C6 x y) q.h q.h' q.at) refl refl refl refl refl
  arrive_gg el g l pair wins loses w C7 x y q = idle_own m t g l C7 x y g l x w (stage_g C7) q.h q.i q.j refl
  arrive_gg el g l pair wins loses w C8 x y q = idle_own m t g l C8 x y g l x w (stage_g C8) q.h q.i q.j refl
  arrive_gg el g l pair wins loses w C9 x y q = idle_own m t g l C9 x y g l x w (stage_g C9) q.h q.i q.j refl
  arrive_gg el g l pair wins loses w C10 x y q = idle_own m t g l C10 x y g l x w (stage_g C10) q.h q.i q.j refl
  arrive_gg el g l pair wins loses w C11 x y q = idle_own m t g l C11 x y g l x w (stage_g C11) q.h q.i q.j refl
  arrive_gg el g l pair wins loses w C12 x y q = idle_own m t g l C12 x y g l x w (stage_g C12) q.h q.i q.j refl
  arrive_gg el g l pair wins loses w C13 x y q = idle_own m t g l C13 x y g l x w (stage_g C13) q.h q.i q.j refl
  arrive_gg el g l pair wins loses w C14 x y q = idle_own m t g l C14 x y g l x w (stage_g C14) q.h q.i q.j refl
  arrive_gg el g l pair wins loses w C15 x y q = idle_own m t g l C15 x y g l x w (stage_g C15) q.h q.i q.j refl
  arrive_gg el g l pair wins loses w C16 x y q = idle_own m t g l C16 x y g l x w (stage_g C16) q.h q.i q.j refl
  arrive_gg el g l pair wins loses w C17 x y q = idle_own m t g l C17 x y g l x w (stage_g C17) q.h q.i q.j refl
  arrive_gg el g l pair wins loses w C18 x y q = idle_own m t g l C18 x y g l x w (stage_g C18) q.h q.i q.j refl
  arrive_gg el g l pair wins loses w C19 x y q = idle_own m t g l C19 x y g l x w (stage_g C19) q.h q.i q.j refl
  arrive_gg el g l pair wins loses w C20 x y q =
      went_own m t g l C20 C22 x y q.h q.h' q.i q.j q.i' q.j' as_before _ _
      (shut_own m t g l pair w x y q.i q.j (option_map mirror (own_at m t l g (stage_l C20) q.h' q.i' q.j'))
      (node_g C20 x y) (node_l C20 x y) q.h q.h' Delivered q.at) refl refl refl refl refl
  arrive_gg el g l pair wins loses w C21 x y q =
      went_own m t g l C21 C24 x y q.h q.h' q.i q.j q.i' q.j' as_before _ _
      (shut_own m t g l pair w x y q.i q.j (option_map mirror (own_at m t l g (stage_l C21) q.h' q.i' q.j'))
      (node_g C21 x y) (node_l C21 x y) q.h q.h' Coming q.at) refl refl refl refl refl
  arrive_gg el g l pair wins loses w C22 x y q = idle_own m t g l C22 x y g l x w (stage_g C22) q.h q.i q.j refl
  arrive_gg el g l pair wins loses w C23 x y q =
      went_own m t g l C23 C25 x y q.h q.h' q.i q.j q.i' q.j' as_before _ _
      (shut_own m t g l pair w x y q.i q.j (option_map mirror (own_at m t l g (stage_l C23) q.h' q.i' q.j'))
      (node_g C23 x y) (node_l C23 x y) q.h q.h' Delivered q.at) refl refl refl refl refl
  arrive_gg el g l pair wins loses w C24 x y q = idle_own m t g l C24 x y g l x w (stage_g C24) q.h q.i q.j refl
  arrive_gg el g l pair wins loses w C25 x y q = idle_own m t g l C25 x y g l x w (stage_g C25) q.h q.i q.j refl

  pub arrive_gl : IsElecting m t → (g l : Side) → IsPair g l → t.wins g ≡ true → t.wins l ≡ false →
      (w : World P M) (k : Phase) (x y : ℕ) → (q : InPhase m t g l w k x y) →
      Went m t g l k x y q.h q.h' 1 (arrives m l x w (option_map mirror (own_at m t g l (stage_g k) q.h q.i q.j))) [] []
  arrive_gl el g l pair wins loses w C1 x y q = idle_other m t g l C1 x y l g x w (stage_g C1) q.h q.i q.j refl
  arrive_gl el g l pair wins loses w C2 x y q = idle_other m t g l C2 x y l g x w (stage_g C2) q.h q.i q.j refl
  arrive_gl el g l pair wins loses w C3 x y q = idle_other m t g l C3 x y l g x w (stage_g C3) q.h q.i q.j refl
  arrive_gl el g l pair wins loses w C4 x y q =
      went_other m t g l C4 C6 x y q.h q.h' q.i 0 q.i' q.j' as_before _ _
      (cer_closed m t el l g (swapped pair) w y x q.i q.j (own_at m t l g (stage_l C4) q.h' q.i' q.j')
      (node_g C4 x y) q.h' q.h (flip_in m t g l w C4 x y q)) refl refl refl refl refl
  arrive_gl el g l pair wins loses w C5 x y q = idle_other m t g l C5 x y l g x w (stage_g C5) q.h q.i q.j refl
  arrive_gl el g l pair wins loses w C6 x y q = idle_other m t g l C6 x y l g x w (stage_g C6) q.h q.i q.j refl
  arrive_gl el g l pair wins loses w C7 x y q = idle_other m t g l C7 x y l g x w (stage_g C7) q.h q.i q.j refl
  arrive_gl el g l pair wins loses w C8 x y q = idle_other m t g l C8 x y l g x w (stage_g C8) q.h q.i q.j refl
  arrive_gl el g l pair wins loses w C9 x y q = idle_other m t g l C9 x y l g x w (stage_g C9) q.h q.i q.j refl
  arrive_gl el g l pair wins loses w C10 x y q = idle_other m t g l C10 x y l g x w (stage_g C10) q.h q.i q.j refl
  arrive_gl el g l pair wins loses w C11 x y q =
      went_other m t g l C11 C13 x y q.h q.h' q.i 0 q.i' q.j' as_before _ _
      (cer_wait m t el l g (swapped pair) w y x q.i q.j (own_at m t l g (stage_l C11) q.h' q.i' q.j')
      (node_g C11 x y) q.h' q.h (flip_in m t g l w C11 x y q)) refl refl refl refl refl
  arrive_gl el g l pair wins loses w C12 x y q = idle_other m t g l C12 x y l g x w (stage_g C12) q.h q.i q.j refl
  arrive_gl el g l pair wins loses w C13 x y q = idle_other m t g l C13 x y l g x w (stage_g C13) q.h q.i q.j refl
  arrive_gl el g l pair wins loses w C14 x y q = idle_other m t g l C14 x y l g x w (stage_g C14) q.h q.i q.j refl
  arrive_gl el g l pair wins loses w C15 x y q =
      went_other m t g l C15 C16 x y q.h q.h' q.i 0 q.i' q.j' as_before _ _
      (cer_lose m t el l g (swapped pair) loses w y x q.i q.j (own_at m t l g (stage_l C15) q.h' q.i' q.j')
      (node_g C15 x y) q.h' q.h (flip_in m t g l w C15 x y q)) refl refl refl refl refl
  arrive_gl el g l pair wins loses w C16 x y q = idle_other m t g l C16 x y l g x w (stage_g C16) q.h q.i q.j refl
  arrive_gl el g l pair wins loses w C17 x y q =
      went_other m t g l C17 C18 x y q.h q.h' q.i 0 q.i' q.j' as_before _ _
      (cer_late m t el l g (swapped pair) loses w y x q.i q.j (own_at m t l g (stage_l C17) q.h' q.i' q.j')
      (node_g C17 x y) q.h' q.h (flip_in m t g l w C17 x y q)) refl refl refl refl refl
  arrive_gl el g l pair wins loses w C18 x y q =
      went_other m t g l C18 C20 x y q.h q.h' q.i q.j q.i' q.j' as_before _ _
      (gone_returns m t el l g (swapped pair) w y x q.i q.j (own_at m t l g (stage_l C18) q.h' q.i' q.j')
      (node_g C18 x y) q.h' q.h (flip_in m t g l w C18 x y q)) refl refl refl refl refl
  arrive_gl el g l pair wins loses w C19 x y q =
      went_other m t g l C19 C21 x y q.h q.h' q.i 0 q.i' q.j' as_before _ _
      (cer_rejected m t el l g (swapped pair) w y x q.i q.j (own_at m t l g (stage_l C19) q.h' q.i' q.j')
      (node_g C19 x y) q.h' q.h (flip_in m t g l w C19 x y q)) refl refl refl refl refl
  arrive_gl el g l pair wins loses w C20 x y q = idle_other m t g l C20 x y l g x w (stage_g C20) q.h q.i q.j refl
  arrive_gl el g l pair wins loses w C21 x y q =
      went_other m t g l C21 C23 x y q.h q.h' q.i q.j q.i' q.j' as_before _ _
      (shut_other m t l g (swapped pair) w y x q.i q.j (own_at m t l g (stage_l C21) q.h' q.i' q.j')
      (node_l C21 x y) (node_g C21 x y) q.h' q.h Coming (flip_in m t g l w C21 x y q)) refl refl refl refl refl
  arrive_gl el g l pair wins loses w C22 x y q = idle_other m t g l C22 x y l g x w (stage_g C22) q.h q.i q.j refl
  arrive_gl el g l pair wins loses w C23 x y q = idle_other m t g l C23 x y l g x w (stage_g C23) q.h q.i q.j refl
  arrive_gl el g l pair wins loses w C24 x y q =
      went_other m t g l C24 C25 x y q.h q.h' q.i q.j q.i' q.j' as_before _ _
      (shut_other m t l g (swapped pair) w y x q.i q.j (own_at m t l g (stage_l C24) q.h' q.i' q.j')
      (node_l C24 x y) (node_g C24 x y) q.h' q.h Delivered (flip_in m t g l w C24 x y q))
      refl refl refl refl refl
  arrive_gl el g l pair wins loses w C25 x y q = idle_other m t g l C25 x y l g x w (stage_g C25) q.h q.i q.j refl

  -- a delivery on the other side's link, to it and to the greater side
  pub arrive_ll : IsElecting m t → (g l : Side) → IsPair g l → t.wins g ≡ true → t.wins l ≡ false →
      (w : World P M) (k : Phase) (x y : ℕ) → (q : InPhase m t g l w k x y) →
      Went m t g l k x y q.h q.h' 1 (arrives m l y w (own_at m t l g (stage_l k) q.h' q.i' q.j')) [] []
  arrive_ll el g l pair wins loses w C1 x y q = idle_own m t g l C1 x y l g y w (stage_l C1) q.h' q.i' q.j' refl
  arrive_ll el g l pair wins loses w C2 x y q = idle_own m t g l C2 x y l g y w (stage_l C2) q.h' q.i' q.j' refl
  arrive_ll el g l pair wins loses w C3 x y q = idle_own m t g l C3 x y l g y w (stage_l C3) q.h' q.i' q.j' refl
  arrive_ll el g l pair wins loses w C4 x y q = idle_own m t g l C4 x y l g y w (stage_l C4) q.h' q.i' q.j' refl
  arrive_ll el g l pair wins loses w C5 x y q = idle_own m t g l C5 x y l g y w (stage_l C5) q.h' q.i' q.j' refl
  arrive_ll el g l pair wins loses w C6 x y q = idle_own m t g l C6 x y l g y w (stage_l C6) q.h' q.i' q.j' refl
  arrive_ll el g l pair wins loses w C7 x y q =
      went_other m t g l C7 C9 x y q.h q.h' q.i q.j 0 q.j' as_before _ _
      (cea_plain m t el l g (swapped pair) w y x q.i' q.j'
      (option_map mirror (own_at m t g l (stage_g C7) q.h q.i q.j)) (node_g C7 x y) q.h' q.h
      (flip_in m t g l w C7 x y q)) refl refl refl refl refl
  arrive_ll el g l pair wins loses w C8 x y q = idle_own m t g l C8 x y l g y w (stage_l C8) q.h' q.i' q.j' refl
  arrive_ll el g l pair wins loses w C9 x y q = idle_own m t g l C9 x y l g y w (stage_l C9) q.h' q.i' q.j' refl
  arrive_ll el g l pair wins loses w C10 x y q = idle_own m t g l C10 x y l g y w (stage_l C10) q.h' q.i' q.j' refl
  arrive_ll el g l pair wins loses w C11 x y q = idle_own m t g l C11 x y l g y w (stage_l C11) q.h' q.i' q.j' refl
  arrive_ll el g l pair wins loses w C12 x y q = idle_own m t g l C12 x y l g y w (stage_l C12) q.h' q.i' q.j' refl
  arrive_ll el g l pair wins loses w C13 x y q = idle_own m t g l C13 x y l g y w (stage_l C13) q.h' q.i' q.j' refl
  arrive_ll el g l pair wins loses w C14 x y q = idle_own m t g l C14 x y l g y w (stage_l C14) q.h' q.i' q.j' refl
  arrive_ll el g l pair wins loses w C15 x y q = idle_own m t g l C15 x y l g y w (stage_l C15) q.h' q.i' q.j' refl
  arrive_ll el g l pair wins loses w C16 x y q = idle_own m t g l C16 x y l g y w (stage_l C16) q.h' q.i' q.j' refl
  arrive_ll el g l pair wins loses w C17 x y q =
      went_other m t g l C17 C19 x y q.h q.h' q.i q.j 0 q.j' as_before _ _
      (cea_plain m t el l g (swapped pair) w y x q.i' q.j'
      (option_map mirror (own_at m t g l (stage_g C17) q.h q.i q.j)) (node_g C17 x y) q.h' q.h
      (flip_in m t g l w C17 x y q)) refl refl refl refl refl
  arrive_ll el g l pair wins loses w C18 x y q =
      went_other m t g l C18 C21 x y q.h q.h' q.i q.j 0 q.j' as_before _ _
      (cea_returns m t el l g (swapped pair) w y x q.i' q.j' q.i q.j (node_g C18 x y) q.h' q.h
      (flip_in m t g l w C18 x y q)) refl refl refl refl refl
  arrive_ll el g l pair wins loses w C19 x y q = idle_own m t g l C19 x y l g y w (stage_l C19) q.h' q.i' q.j' refl
  arrive_ll el g l pair wins loses w C20 x y q =
      went_other m t g l C20 C23 x y q.h q.h' q.i q.j 0 q.j' as_before _ _
      (cea_plain m t el l g (swapped pair) w y x q.i' q.j'
      (option_map mirror (own_at m t g l (stage_g C20) q.h q.i q.j)) (node_g C20 x y) q.h' q.h
      (flip_in m t g l w C20 x y q)) refl refl refl refl refl
  arrive_ll el g l pair wins loses w C21 x y q = idle_own m t g l C21 x y l g y w (stage_l C21) q.h' q.i' q.j' refl
  arrive_ll el g l pair wins loses w C22 x y q =
      went_other m t g l C22 C25 x y q.h q.h' q.i q.j 0 q.j' as_before _ _
      (cea_plain m t el l g (swapped pair) w y x q.i' q.j'
      (option_map mirror (own_at m t g l (stage_g C22) q.h q.i q.j)) (node_g C22 x y) q.h' q.h
      (flip_in m t g l w C22 x y q)) refl refl refl refl refl
  arrive_ll el g l pair wins loses w C23 x y q = idle_own m t g l C23 x y l g y w (stage_l C23) q.h' q.i' q.j' refl
  arrive_ll el g l pair wins loses w C24 x y q = idle_own m t g l C24 x y l g y w (stage_l C24) q.h' q.i' q.j' refl
  arrive_ll el g l pair wins loses w C25 x y q = idle_own m t g l C25 x y l g y w (stage_l C25) q.h' q.i' q.j' refl

  pub arrive_lg : IsElecting m t → (g l : Side) → IsPair g l → t.wins g ≡ true → t.wins l ≡ false →
      (w : World P M) (k : Phase) (x y : ℕ) → (q : InPhase m t g l w k x y) →
      Went m t g l k x y q.h q.h' 1 (arrives m g y w (option_map mirror (own_at m t l g (stage_l k) q.h' q.i' q.j')))
      [] []
  arrive_lg el g l pair wins loses w C1 x y q = idle_other m t g l C1 x y g l y w (stage_l C1) q.h' q.i' q.j' refl
  arrive_lg el g l pair wins loses w C2 x y q = idle_other m t g l C2 x y g l y w (stage_l C2) q.h' q.i' q.j' refl
  arrive_lg el g l pair wins loses w C3 x y q = idle_other m t g l C3 x y g l y w (stage_l C3) q.h' q.i' q.j' refl
  arrive_lg el g l pair wins loses w C4 x y q = idle_other m t g l C4 x y g l y w (stage_l C4) q.h' q.i' q.j' refl
  arrive_lg el g l pair wins loses w C5 x y q =
      went_own m t g l C5 C7 x y q.h q.h' q.i q.j q.i' 0 as_before _ _
      (cer_closed m t el g l pair w x y q.i' q.j' (own_at m t g l (stage_g C5) q.h q.i q.j)
      (node_l C5 x y) q.h q.h' q.at) refl refl refl refl refl
  arrive_lg el g l pair wins loses w C6 x y q = idle_other m t g l C6 x y g l y w (stage_l C6) q.h' q.i' q.j' refl
  arrive_lg el g l pair wins loses w C7 x y q = idle_other m t g l C7 x y g l y w (stage_l C7) q.h' q.i' q.j' refl
  arrive_lg el g l pair wins loses w C8 x y q = idle_other m t g l C8 x y g l y w (stage_l C8) q.h' q.i' q.j' refl
  arrive_lg el g l pair wins loses w C9 x y q = idle_other m t g l C9 x y g l y w (stage_l C9) q.h' q.i' q.j' refl
  arrive_lg el g l pair wins loses w C10 x y q = idle_other m t g l C10 x y g l y w
      (stage_l C10) q.h' q.i' q.j' refl
  arrive_lg el g l pair wins loses w C11 x y q = idle_other m t g l C11 x y g l y w
      (stage_l C11) q.h' q.i' q.j' refl
  arrive_lg el g l pair wins loses w C12 x y q =
      went_own m t g l C12 C14 x y q.h q.h' q.i q.j q.i' 0 as_before _ _
      (cer_wait m t el g l pair w x y q.i' q.j' (own_at m t g l (stage_g C12) q.h q.i q.j)
      (node_l C12 x y) q.h q.h' q.at) refl refl refl refl refl
  arrive_lg el g l pair wins loses w C13 x y q = idle_other m t g l C13 x y g l y w
      (stage_l C13) q.h' q.i' q.j' refl
  arrive_lg el g l pair wins loses w C14 x y q = idle_other m t g l C14 x y g l y w
      (stage_l C14) q.h' q.i' q.j' refl
  arrive_lg el g l pair wins loses w C15 x y q =
      went_own m t g l C15 C17 x y q.h q.h' q.i q.j q.i' 0 as_before _ _
      (cer_win m t el g l pair wins w x y q.i q.j q.i' q.j' (node_l C15 x y) q.h q.h' q.at)
      refl refl refl refl refl
  arrive_lg el g l pair wins loses w C16 x y q =
      went_own m t g l C16 C18 x y q.h q.h' q.i q.j q.i' 0 as_before _ _
      (cer_win_late m t el g l pair wins w x y q.i q.j q.i' q.j' (node_l C16 x y) q.h q.h' q.at)
      refl refl refl refl refl
  arrive_lg el g l pair wins loses w C17 x y q = idle_other m t g l C17 x y g l y w
      (stage_l C17) q.h' q.i' q.j' refl
  arrive_lg el g l pair wins loses w C18 x y q = idle_other m t g l C18 x y g l y w
      (stage_l C18) q.h' q.i' q.j' refl
  arrive_lg el g l pair wins loses w C19 x y q = idle_other m t g l C19 x y g l y w
      (stage_l C19) q.h' q.i' q.j' refl
  arrive_lg el g l pair wins loses w C20 x y q = idle_other m t g l C20 x y g l y w
      (stage_l C20) q.h' q.i' q.j' refl
  arrive_lg el g l pair wins loses w C21 x y q = idle_other m t g l C21 x y g l y w
      (stage_l C21) q.h' q.i' q.j' refl
  arrive_lg el g l pair wins loses w C22 x y q = idle_other m t g l C22 x y g l y w
      (stage_l C22) q.h' q.i' q.j' refl
  arrive_lg el g l pair wins loses w C23 x y q = idle_other m t g l C23 x y g l y w
      (stage_l C23) q.h' q.i' q.j' refl
  arrive_lg el g l pair wins loses w C24 x y q = idle_other m t g l C24 x y g l y w
      (stage_l C24) q.h' q.i' q.j' refl
  arrive_lg el g l pair wins loses w C25 x y q = idle_other m t g l C25 x y g l y w
      (stage_l C25) q.h' q.i' q.j' refl
