-- What a Start comes to in each phase of a clean run.
use Rattle.std.proofs.Common.{◌≡◌, ℕ, suc, ◌+◌, nat_le, Bool, true, false, if◌then◌else◌, List, [], ◌∷◌, ◌++◌, length}
use Rattle.std.proofs.Common.{refl, sym, ap, subst, ◌∙◌}
use Rattle.std.specs.Prelude.{option_map}
use Rattle.std.proofs.lemmas.Bool.{leb-true}
use Rattle.dm_two_peers.specs.Machine.{conn}
use Rattle.dm_two_peers.specs.Links.{Side, opens}
use Rattle.dm_two_peers.specs.Peers.{StartEvent, Peers}
use Rattle.dm_two_peers.specs.Worlds.{World, After, Ignored, tell}
use Rattle.dm_two_peers.specs.Happens.{Starts}
use Rattle.dm_two_peers.specs.Quiet.{makes}
use Rattle.dm_two_peers.specs.Electing.{Talks, IsElecting}
use Rattle.dm_two_peers.proofs.Pairs.{IsPair, swapped, mirror}
use Rattle.dm_two_peers.proofs.Told.{Goes}
use Rattle.dm_two_peers.proofs.CleanSteps.{out_start_wait, out_start_cea, out_start_elect, out_start_returns, out_start_r}
use Rattle.dm_two_peers.proofs.CleanSteps.{out_start_i}
use Rattle.dm_two_peers.proofs.Acting.{own_at}
use Rattle.dm_two_peers.proofs.Starting.{start_first, start_second, start_declined}
use Rattle.dm_two_peers.proofs.Phases.{Phase, C1, C2, C3, C4, C5, C6, C7, C8, C9, C10, C11, C12, C13, C14, C15, C16, C17}
use Rattle.dm_two_peers.proofs.Phases.{C18, C19, C20, C21, C22, C23, C24, C25, node_g, node_l, stage_g, stage_l, depth}
use Rattle.dm_two_peers.proofs.Phases.{present, put_so_far, as_before, InPhase, Went, stays}
use Rattle.dm_two_peers.proofs.Phases.{moves}
use Rattle.dm_two_peers.proofs.Phasing.{flip_in, flip_out, adds_either}
use Rattle.dm_two_peers.proofs.TableAcks.{self_opens, other_opens}

module _ {P M C H : Type 0} (m : Peers P M) (t : Talks P M C H) where
  -- a Start of the greater side, and of the other
  abbrev pub MadeBy : (g l s : Side) (k : Phase) (x y n n' : ℕ) (w : World P M) → After P M → Type 0
  MadeBy g l s k x y n n' w after = Went m t g l k x y n n' 1 after (makes g w (Starts s) after)
      (makes l w (Starts s) after)

  declined : {n n' : ℕ} (g l s : Side) (k : Phase) (x y : ℕ) (w : World P M) (after : After P M) →
      after ≡ Ignored → MadeBy g l s k x y n n' w after
  declined {n} {n'} g l s k x y w after e = subst (λ z. MadeBy g l s k x y n n' w z) (sym e) stays

  one_made : (b : Bool) (x y : ℕ) → b ≡ true → y ≡ x → (if b then y ∷ [] else []) ≡ x ∷ []
  one_made true x y h e = ap (λ (n : ℕ). n ∷ []) e
  one_made false x y h e = cc

  none_made : (b : Bool) (x : ℕ) (ns : List ℕ) → b ≡ false → ns ++ (if b then x ∷ [] else []) ≡ ns ++ []
  none_made true x ns h = cc
  none_made false x ns h = refl

  started_g : (g l : Side) → IsPair g l →
      (k k' : Phase) (x y y' : ℕ) (w : World P M) (h h' i' j' : ℕ) (after : After P M) →
      Goes m t g l (length w.links) y' (own_at m t g l (stage_g k') h 0 0)
      (option_map mirror (own_at m t l g (stage_l k') h' i' j')) (node_g k' (length w.links) y')
      (node_l k' (length w.links) y') h h' after [] →
      put_so_far m t g l k true x y h h' ++ [] ≡ put_so_far m t g l k' true (length w.links) y' h h' →
      put_so_far m t g l k false x y h h' ++ [] ≡ put_so_far m t g l k' false (length w.links) y' h h' →
      nat_le (depth k + 1) (depth k') ≡ true →
      present (stage_g k) x ≡ [] →
      present (stage_g k') (length w.links) ≡ length w.links ∷ [] →
      present (stage_l k) y ++ [] ≡ present (stage_l k') y' →
      MadeBy g l g k x y h h' w after
  started_g g l pair k k' x y y' w h h' i' j' after s e1 e2 e0 e4 e5 e6 =
      let n = length w.links in
      subst (λ z. MadeBy g l g k x y h h' w z) (sym s.is)
      (moves s.world s.put (if opens g g then n ∷ [] else []) (if opens l g then n ∷ [] else []) k' n y'
      (record { h = h; h' = h'; i = 0; j = 0; i' = i'; j' = j'; at = s.at })
      (adds_either m t g l k k' x y h h' n y' h h' [] s.put as_before s.is_put e1 e2)
      (leb-true (depth k + 1) (depth k') e0)
      (ap (λ (ns : List ℕ). ns ++ (if opens g g then n ∷ [] else [])) e4
      ∙ (one_made (opens g g) n n (self_opens g l pair) refl ∙ sym e5))
      (none_made (opens l g) n (present (stage_l k) y) (other_opens g l pair) ∙ e6))

  started_l : (g l : Side) → IsPair g l →
      (k k' : Phase) (x y x' : ℕ) (w : World P M) (h h' i j : ℕ) (after : After P M) →
      Goes m t l g (length w.links) x' (own_at m t l g (stage_l k') h' 0 0)
      (option_map mirror (own_at m t g l (stage_g k') h i j)) (node_l k' x' (length w.links))
      (node_g k' x' (length w.links)) h' h after [] →
      put_so_far m t g l k true x y h h' ++ [] ≡ put_so_far m t g l k' true x' (length w.links) h h' →
      put_so_far m t g l k false x y h h' ++ [] ≡ put_so_far m t g l k' false x' (length w.links) h h' →
      nat_le (depth k + 1) (depth k') ≡ true →
      present (stage_l k) y ≡ [] →
      present (stage_l k') (length w.links) ≡ length w.links ∷ [] →
      present (stage_g k) x ++ [] ≡ present (stage_g k') x' →
      MadeBy g l l k x y h h' w after
  started_l g l pair k k' x y x' w h h' i j after s e1 e2 e0 e4 e5 e6 =
      let n = length w.links in
      subst (λ z. MadeBy g l l k x y h h' w z) (sym s.is)
      (moves s.world s.put (if opens g l then n ∷ [] else []) (if opens l l then n ∷ [] else []) k' x' n
      (flip_out m t g l s.world k' x' n h h' i j 0 0 s.at)
      (adds_either m t g l k k' x y h h' x' n h h' [] s.put as_before s.is_put e1 e2)
      (leb-true (depth k + 1) (depth k') e0)
      (none_made (opens g l) n (present (stage_g k) x) (other_opens l g (swapped pair)) ∙ e6)
      (ap (λ (ns : List ℕ). ns ++ (if opens l l then n ∷ [] else [])) e4
      ∙ (one_made (opens l l) n n (self_opens l g (swapped pair)) refl ∙ sym e5)))

  pub start_g : IsElecting m t → (g l : Side) → IsPair g l → (w : World P M) (k : Phase) (x y : ℕ) →
      (q : InPhase m t g l w k x y) → MadeBy g l g k x y q.h q.h' w (tell m g (StartEvent (conn (length w.links))) w)
  start_g el g l pair w C1 x y q = started_g g l pair C1 C2 x y (suc (length w.links)) w q.h q.h' 0 0 _
      (start_first m t el g l pair w x y (node_l C1 x y) q.h q.h' q.at) refl refl refl refl refl refl
  start_g el g l pair w C2 x y q = declined g l g C2 x y w _
      (start_declined m t el g w (node_g C2 x y) q.h q.h' q.at.own (out_start_wait x (length w.links) (t.wins g)))
  start_g el g l pair w C3 x y q = started_g g l pair C3 C10 x y y w q.h q.h' q.i' q.j' _
      (start_second m t el g l pair w x y _ (node_l C3 x y) q.h q.h' q.at) refl refl refl refl refl refl
  start_g el g l pair w C4 x y q = declined g l g C4 x y w _
      (start_declined m t el g w (node_g C4 x y) q.h q.h' q.at.own (out_start_cea x (length w.links) (t.wins g)))
  start_g el g l pair w C5 x y q = started_g g l pair C5 C12 x y y w q.h q.h' q.i' q.j' _
      (start_second m t el g l pair w x y _ (node_l C5 x y) q.h q.h' q.at) refl refl refl refl refl refl
  start_g el g l pair w C6 x y q = declined g l g C6 x y w _
      (start_declined m t el g w (node_g C6 x y) q.h q.h' q.at.own (out_start_cea x (length w.links) (t.wins g)))
  start_g el g l pair w C7 x y q = declined g l g C7 x y w _
      (start_declined m t el g w (node_g C7 x y) q.h q.h' q.at.own (out_start_r y (length w.links) (t.wins g)))
  start_g el g l pair w C8 x y q = declined g l g C8 x y w _
      (start_declined m t el g w (node_g C8 x y) q.h q.h' q.at.own (out_start_i x (length w.links) (t.wins g)))
  start_g el g l pair w C9 x y q = declined g l g C9 x y w _
      (start_declined m t el g w (node_g C9 x y) q.h q.h' q.at.own (out_start_r y (length w.links) (t.wins g)))
  start_g el g l pair w C10 x y q = declined g l g C10 x y w _
      (start_declined m t el g w (node_g C10 x y) q.h q.h' q.at.own (out_start_wait x (length w.links) (t.wins g)))
  start_g el g l pair w C11 x y q = declined g l g C11 x y w _
      (start_declined m t el g w (node_g C11 x y) q.h q.h' q.at.own (out_start_cea x (length w.links) (t.wins g)))
  start_g el g l pair w C12 x y q = declined g l g C12 x y w _
      (start_declined m t el g w (node_g C12 x y) q.h q.h' q.at.own (out_start_wait x (length w.links) (t.wins g)))
  start_g el g l pair w C13 x y q = declined g l g C13 x y w _
      (start_declined m t el g w (node_g C13 x y) q.h q.h' q.at.own (out_start_cea x (length w.links) (t.wins g)))
  start_g el g l pair w C14 x y q = declined g l g C14 x y w _
      (start_declined m t el g w (node_g C14 x y) q.h q.h' q.at.own
      (out_start_elect x y (length w.links) (t.wins g)))
  start_g el g l pair w C15 x y q = declined g l g C15 x y w _
      (start_declined m t el g w (node_g C15 x y) q.h q.h' q.at.own (out_start_cea x (length w.links) (t.wins g)))
  start_g el g l pair w C16 x y q = declined g l g C16 x y w _
      (start_declined m t el g w (node_g C16 x y) q.h q.h' q.at.own (out_start_cea x (length w.links) (t.wins g)))
  start_g el g l pair w C17 x y q = declined g l g C17 x y w _
      (start_declined m t el g w (node_g C17 x y) q.h q.h' q.at.own (out_start_r y (length w.links) (t.wins g)))
  start_g el g l pair w C18 x y q = declined g l g C18 x y w _
      (start_declined m t el g w (node_g C18 x y) q.h q.h' q.at.own (out_start_r y (length w.links) (t.wins g)))
  start_g el g l pair w C19 x y q = declined g l g C19 x y w _
      (start_declined m t el g w (node_g C19 x y) q.h q.h' q.at.own (out_start_r y (length w.links) (t.wins g)))
  start_g el g l pair w C20 x y q = declined g l g C20 x y w _
      (start_declined m t el g w (node_g C20 x y) q.h q.h' q.at.own (out_start_r y (length w.links) (t.wins g)))
  start_g el g l pair w C21 x y q = declined g l g C21 x y w _
      (start_declined m t el g w (node_g C21 x y) q.h q.h' q.at.own (out_start_r y (length w.links) (t.wins g)))
  start_g el g l pair w C22 x y q = declined g l g C22 x y w _
      (start_declined m t el g w (node_g C22 x y) q.h q.h' q.at.own (out_start_r y (length w.links) (t.wins g)))
  start_g el g l pair w C23 x y q = declined g l g C23 x y w _
      (start_declined m t el g w (node_g C23 x y) q.h q.h' q.at.own (out_start_r y (length w.links) (t.wins g)))
  start_g el g l pair w C24 x y q = declined g l g C24 x y w _
      (start_declined m t el g w (node_g C24 x y) q.h q.h' q.at.own (out_start_r y (length w.links) (t.wins g)))
  start_g el g l pair w C25 x y q = declined g l g C25 x y w _
      (start_declined m t el g w (node_g C25 x y) q.h q.h' q.at.own (out_start_r y (length w.links) (t.wins g)))

  pub start_l : IsElecting m t → (g l : Side) → IsPair g l → (w : World P M) (k : Phase) (x y : ℕ) →
      (q : InPhase m t g l w k x y) → MadeBy g l l k x y q.h q.h' w (tell m l (StartEvent (conn (length w.links))) w)
  start_l el g l pair w C1 x y q = started_l g l pair C1 C3 x y (suc (length w.links)) w q.h q.h' 0 0 _
      (start_first m t el l g (swapped pair) w y x (node_g C1 x y) q.h' q.h (flip_in m t g l w C1 x y q))
      refl refl refl refl refl refl
  start_l el g l pair w C2 x y q = started_l g l pair C2 C10 x y x w q.h q.h' q.i q.j _
      (start_second m t el l g (swapped pair) w y x _ (node_g C2 x y) q.h' q.h (flip_in m t g l w C2 x y q))
      refl refl refl refl refl refl
  start_l el g l pair w C3 x y q = declined g l l C3 x y w _
      (start_declined m t el l w (node_l C3 x y) q.h' q.h q.at.other (out_start_wait y (length w.links) (t.wins l)))
  start_l el g l pair w C4 x y q = started_l g l pair C4 C11 x y x w q.h q.h' q.i q.j _
      (start_second m t el l g (swapped pair) w y x _ (node_g C4 x y) q.h' q.h (flip_in m t g l w C4 x y q))
      refl refl refl refl refl refl
  start_l el g l pair w C5 x y q = declined g l l C5 x y w _
      (start_declined m t el l w (node_l C5 x y) q.h' q.h q.at.other (out_start_cea y (length w.links) (t.wins l)))
  start_l el g l pair w C6 x y q = declined g l l C6 x y w _
      (start_declined m t el l w (node_l C6 x y) q.h' q.h q.at.other (out_start_r x (length w.links) (t.wins l)))
  start_l el g l pair w C7 x y q = declined g l l C7 x y w _
      (start_declined m t el l w (node_l C7 x y) q.h' q.h q.at.other (out_start_cea y (length w.links) (t.wins l)))
  start_l el g l pair w C8 x y q = declined g l l C8 x y w _
      (start_declined m t el l w (node_l C8 x y) q.h' q.h q.at.other (out_start_r x (length w.links) (t.wins l)))
  start_l el g l pair w C9 x y q = declined g l l C9 x y w _
      (start_declined m t el l w (node_l C9 x y) q.h' q.h q.at.other (out_start_i y (length w.links) (t.wins l)))
  start_l el g l pair w C10 x y q = declined g l l C10 x y w _
      (start_declined m t el l w (node_l C10 x y) q.h' q.h q.at.other
      (out_start_wait y (length w.links) (t.wins l)))
  start_l el g l pair w C11 x y q = declined g l l C11 x y w _
      (start_declined m t el l w (node_l C11 x y) q.h' q.h q.at.other
      (out_start_wait y (length w.links) (t.wins l)))
  start_l el g l pair w C12 x y q = declined g l l C12 x y w _
      (start_declined m t el l w (node_l C12 x y) q.h' q.h q.at.other (out_start_cea y (length w.links) (t.wins l)))
  start_l el g l pair w C13 x y q = declined g l l C13 x y w _
      (start_declined m t el l w (node_l C13 x y) q.h' q.h q.at.other
      (out_start_elect y x (length w.links) (t.wins l)))
  start_l el g l pair w C14 x y q = declined g l l C14 x y w _
      (start_declined m t el l w (node_l C14 x y) q.h' q.h q.at.other (out_start_cea y (length w.links) (t.wins l)))
  start_l el g l pair w C15 x y q = declined g l l C15 x y w _
      (start_declined m t el l w (node_l C15 x y) q.h' q.h q.at.other (out_start_cea y (length w.links) (t.wins l)))
  start_l el g l pair w C16 x y q = declined g l l C16 x y w _
      (start_declined m t el l w (node_l C16 x y) q.h' q.h q.at.other
      (out_start_returns y x (length w.links) (t.wins l)))
  start_l el g l pair w C17 x y q = declined g l l C17 x y w _
      (start_declined m t el l w (node_l C17 x y) q.h' q.h q.at.other (out_start_cea y (length w.links) (t.wins l)))
  start_l el g l pair w C18 x y q = declined g l l C18 x y w _
      (start_declined m t el l w (node_l C18 x y) q.h' q.h q.at.other
      (out_start_returns y x (length w.links) (t.wins l)))
  start_l el g l pair w C19 x y q = declined g l l C19 x y w _
      (start_declined m t el l w (node_l C19 x y) q.h' q.h q.at.other (out_start_i y (length w.links) (t.wins l)))
  start_l el g l pair w C20 x y q = declined g l l C20 x y w _
      (start_declined m t el l w (node_l C20 x y) q.h' q.h q.at.other (out_start_cea y (length w.links) (t.wins l)))
  start_l el g l pair w C21 x y q = declined g l l C21 x y w _
      (start_declined m t el l w (node_l C21 x y) q.h' q.h q.at.other (out_start_i y (length w.links) (t.wins l)))
  start_l el g l pair w C22 x y q = declined g l l C22 x y w _
      (start_declined m t el l w (node_l C22 x y) q.h' q.h q.at.other (out_start_cea y (length w.links) (t.wins l)))
  start_l el g l pair w C23 x y q = declined g l l C23 x y w _
      (start_declined m t el l w (node_l C23 x y) q.h' q.h q.at.other (out_start_i y (length w.links) (t.wins l)))
  start_l el g l pair w C24 x y q = declined g l l C24 x y w _
      (start_declined m t el l w (node_l C24 x y) q.h' q.h q.at.other (out_start_i y (length w.links) (t.wins l)))
  start_l el g l pair w C25 x y q = declined g l l C25 x y w _
      (start_declined m t el l w (node_l C25 x y) q.h' q.h q.at.other (out_start_i y (length w.links) (t.wins l)))
