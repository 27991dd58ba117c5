-- From rest each clean run comes to a phase, whoever wins.
use Rattle.std.proofs.Common.{◌≡◌, suc, ◌+◌, true, false, Option, Some, None, IfSome, List, [], length, refl, sym, ◌∙◌}
use Rattle.std.proofs.Common.{arith, inl, inr}
use Rattle.std.proofs.lemmas.Bool.{cases_Bool, not-true, not-false}
use Rattle.dm_two_peers.specs.Links.{Side, A, B}
use Rattle.dm_two_peers.specs.Peers.{Peers}
use Rattle.dm_two_peers.specs.Worlds.{World}
use Rattle.dm_two_peers.specs.Happens.{Happening, RunEnd, run}
use Rattle.dm_two_peers.specs.Quiet.{is_clean, links_made, steps_taken}
use Rattle.dm_two_peers.specs.Electing.{Talks, IsElecting}
use Rattle.dm_two_peers.specs.Settled.{IsAtRest}
use Rattle.dm_two_peers.proofs.Pairs.{IsPair, ab, ba}
use Rattle.dm_two_peers.proofs.Phases.{C1, InPhase}
use Rattle.dm_two_peers.proofs.Running.{nothing_put, Ended, runs}
use Rattle.dm_two_peers.proofs.Depths.{bare}
use Rattle.dm_two_peers.proofs.Settling.{begins}

module _ {P M C H : Type 0} (m : Peers P M) (t : Talks P M C H) where
  -- what a run has come to, for the side that wins and the other
  abbrev pub EndedAt : (g l : Side) → World P M → List (Happening M) → RunEnd P M → Type 0
  EndedAt g l w hs r = Ended m t g l (0 + steps_taken m w hs) (links_made m g w hs) (links_made m l w hs) r

  -- what holds of each such run
  abbrev pub HoldsAtEnd : World P M → List (Happening M) → (RunEnd P M → Type 0) → Type 0
  HoldsAtEnd w hs K =
      (g l : Side) → IsPair g l → t.wins g ≡ true → t.wins l ≡ false → (r : RunEnd P M) → run m w hs ≡ Some r →
      EndedAt g l w hs r → K r

  found_end : (w : World P M) (hs : List (Happening M)) (K : RunEnd P M → Type 0) → HoldsAtEnd w hs K → (g l : Side) →
      IsPair g l → t.wins g ≡ true → t.wins l ≡ false → (o : Option (RunEnd P M)) → run m w hs ≡ o →
      IfSome o (λ r. EndedAt g l w hs r) → IfSome o (λ r. K r)
  found_end w hs K holds g l pair wins loses None e z = tt
  found_end w hs K holds g l pair wins loses (Some r) e z = holds g l pair wins loses r e z

  run_ends : IsElecting m t → (w : World P M) (hs : List (Happening M)) → is_clean hs ≡ true →
      (K : RunEnd P M → Type 0) → HoldsAtEnd w hs K → (g l : Side) → IsPair g l → t.wins g ≡ true → t.wins l ≡ false →
      InPhase m t g l w C1 (length w.links) (suc (length w.links)) → IfSome (run m w hs) (λ r. K r)
  run_ends el w hs clean K holds g l pair wins loses q =
      found_end w hs K holds g l pair wins loses (run m w hs) refl
      (runs m t el g l pair wins loses hs clean C1 (length w.links) (suc (length w.links)) 0
      (record { world = w; put = [] }) q (nothing_put m t g l (length w.links) (suc (length w.links)) q.h q.h')
      (omega arith))

  pub each_ends : IsElecting m t → (w : World P M) → IsAtRest m t w → (hs : List (Happening M)) →
      is_clean hs ≡ true → (K : RunEnd P M → Type 0) → HoldsAtEnd w hs K → IfSome (run m w hs) (λ r. K r)
  each_ends el w rest hs clean K holds =
      let a = bare (m.node_of w.a) rest.shaped_a rest.closed_a in
      let b = bare (m.node_of w.b) rest.shaped_b rest.closed_b in
      elim (cases_Bool (t.wins A)) [
        | inl wins ↦ run_ends el w hs clean K holds A B ab wins (not-true (t.wins B) (sym el.one_wins ∙ wins))
            (begins m t el A B w rest.a rest.b a b rest.quiet)
        | inr loses ↦ run_ends el w hs clean K holds B A ba (not-false (t.wins B) (sym el.one_wins ∙ loses)) loses
            (begins m t el B A w rest.b rest.a b a rest.quiet)
      ]
