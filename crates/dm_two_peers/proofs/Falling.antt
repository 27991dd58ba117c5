-- A clean run is quiet where nothing comes any more, and after as many steps as there are at most.
use Rattle.std.proofs.Common.{◌≡◌, ℕ, ◌+◌, true, false, nat_le, List, [], sym, ◌∙◌, arith, inl, inr, ◌≤◌}
use Rattle.std.proofs.lemmas.Bool.{le-leb}
use Rattle.dm_two_peers.specs.Links.{Side}
use Rattle.dm_two_peers.specs.Peers.{Peers}
use Rattle.dm_two_peers.specs.Worlds.{World}
use Rattle.dm_two_peers.specs.Happens.{Happening, RunEnd}
use Rattle.dm_two_peers.specs.Quiet.{links_made, steps_taken}
use Rattle.dm_two_peers.specs.Electing.{Talks, IsElecting}
use Rattle.dm_two_peers.specs.Falling.{NothingComes, FallsQuiet}
use Rattle.dm_two_peers.proofs.Pairs.{IsPair}
use Rattle.dm_two_peers.proofs.Phases.{Phase, C1, C2, C3, C4, C5, C6, C7, C8, C9, C25, stage_g, stage_l, depth, present}
use Rattle.dm_two_peers.proofs.Phases.{InPhase}
use Rattle.dm_two_peers.proofs.Running.{Ended}
use Rattle.dm_two_peers.proofs.Depths.{Rests, only_g, only_l, both}
use Rattle.dm_two_peers.proofs.Settling.{by_pair}
use Rattle.dm_two_peers.proofs.Onward.{onward}
use Rattle.dm_two_peers.proofs.Resting.{quiet_end}

module _ {P M C H : Type 0} (m : Peers P M) (t : Talks P M C H) where
  -- where a run has nothing left to come
  ended_rests : IsElecting m t → (g l : Side) → IsPair g l → t.wins g ≡ true → t.wins l ≡ false →
      (w : World P M) (k : Phase) (x y : ℕ) → InPhase m t g l w k x y → NothingComes m w → Rests k
  ended_rests el g l pair wins loses w k x y q none =
      elim (onward m t el g l pair wins loses w k x y q) [
        | inl rests ↦ rests
        | inr o ↦ absurd (none o.h o.passes o.world o.put o.is)
      ]

  deep_rests : (k : Phase) → nat_le 9 (depth k) ≡ true → Rests k
  deep_rests C25 h = both
  deep_rests C1 h = cc
  deep_rests _ h = cc

  alone_rests_g : (k : Phase) (y : ℕ) → present (stage_l k) y ≡ [] → nat_le 4 (depth k) ≡ true → Rests k
  alone_rests_g C8 y e h = only_g
  alone_rests_g C1 y e h = cc
  alone_rests_g C2 y e h = cc
  alone_rests_g C4 y e h = cc
  alone_rests_g C6 y e h = cc
  alone_rests_g _ y e h = cc

  alone_rests_l : (k : Phase) (x : ℕ) → present (stage_g k) x ≡ [] → nat_le 4 (depth k) ≡ true → Rests k
  alone_rests_l C9 x e h = only_l
  alone_rests_l C1 x e h = cc
  alone_rests_l C3 x e h = cc
  alone_rests_l C5 x e h = cc
  alone_rests_l C7 x e h = cc
  alone_rests_l _ x e h = cc

  at_least : (a n d : ℕ) → a ≤ n → 0 + n ≤ d → nat_le a d ≡ true
  at_least a n d h k = let low : a ≤ d = omega (arith, h, k) in le-leb a d low

  pub falls_at : IsElecting m t → (g l : Side) → IsPair g l → t.wins g ≡ true → t.wins l ≡ false →
      (w : World P M) (hs : List (Happening M)) (r : RunEnd P M) →
      Ended m t g l (0 + steps_taken m w hs) (links_made m g w hs) (links_made m l w hs) r → FallsQuiet m t w hs r
  falls_at el g l pair wins loses w hs r z =
      record {
        at_end = λ none. quiet_end m t g l r.world z.k z.x z.y z.phase
            (ended_rests el g l pair wins loses r.world z.k z.x z.y z.phase none);
        nine = λ n. quiet_end m t g l r.world z.k z.x z.y z.phase
            (deep_rests z.k (at_least 9 (steps_taken m w hs) (depth z.k) n z.reached));
        four = λ alone n. quiet_end m t g l r.world z.k z.x z.y z.phase
            (elim (by_pair m t g l pair w hs alone) [
              | inl none ↦ alone_rests_l z.k z.x (sym z.made_g ∙ none)
                  (at_least 4 (steps_taken m w hs) (depth z.k) n z.reached)
              | inr none ↦ alone_rests_g z.k z.y (sym z.made_l ∙ none)
                  (at_least 4 (steps_taken m w hs) (depth z.k) n z.reached)
            ]);
      }
