-- A clean run can be brought to rest by Acks and deliveries, with nine steps in all.
use Rattle.std.proofs.Common.{◌≡◌, ℕ, zero, suc, ◌+◌, ◌-◌, true, false, Some, None, IfSome, List, [], ◌∷◌, ◌++◌, length}
use Rattle.std.proofs.Common.{refl, sym, ap, subst, ◌∙◌, arith, inl, inr, ◌≤◌, append-nil}
use Rattle.std.proofs.lemmas.Bool.{and_from, leb-true}
use Rattle.dm_two_peers.specs.Links.{Side}
use Rattle.dm_two_peers.specs.Peers.{Peers}
use Rattle.dm_two_peers.specs.Worlds.{World, Put, After, DoneWith}
use Rattle.dm_two_peers.specs.Happens.{Happening, Acks, Delivers, happens, RunEnd, ran_on, run_from, run}
use Rattle.dm_two_peers.specs.Quiet.{is_clean_one, links_made, makes, kept_of, kept, cost, steps_taken}
use Rattle.dm_two_peers.specs.Electing.{Talks, IsElecting}
use Rattle.dm_two_peers.specs.Settled.{AreOpenOnKept}
use Rattle.dm_two_peers.specs.Falling.{is_ack_or_delivery, are_acks_or_deliveries, CanFallQuiet}
use Rattle.dm_two_peers.proofs.Pairs.{IsPair}
use Rattle.dm_two_peers.proofs.Phases.{Phase, stage_g, stage_l, depth, present, InPhase, Went, stays, is_lost, moves}
use Rattle.dm_two_peers.proofs.Running.{Ended, happening_went}
use Rattle.dm_two_peers.proofs.Depths.{Rests, nine_depth}
use Rattle.dm_two_peers.proofs.Settling.{kept_by}
use Rattle.dm_two_peers.proofs.Runs.{run_joined}
use Rattle.dm_two_peers.proofs.Onward.{StepOnward, onward}
use Rattle.dm_two_peers.proofs.Resting.{quiet_end, opened_end}

module _ {P M C H : Type 0} (m : Peers P M) (t : Talks P M C H) where
  -- the phase that it leads to
  record Further (g l : Side) (k : Phase) (x y : ℕ) (w : World P M) : Type 0 where
    pub k' : Phase
    pub x' : ℕ
    pub y' : ℕ
    pub phase : InPhase m t g l w k' x' y'
    pub deeper : depth k + 1 ≤ depth k'
    pub same_g : present (stage_g k) x ≡ present (stage_g k') x'
    pub same_l : present (stage_l k) y ≡ present (stage_l k') y'

  further_of : {h h' : ℕ} (g l : Side) (k : Phase) (x y c : ℕ) (after : After P M) (gs ls : List ℕ) →
      Went m t g l k x y h h' c after gs ls → c ≡ 1 → gs ≡ [] → ls ≡ [] → (w : World P M) (put : List (Put M)) →
      after ≡ DoneWith w put → Further g l k x y w
  further_of g l k x y c after gs ls stays one eg e_l w put e = cc
  further_of g l k x y c after gs ls is_lost one eg e_l w put e = cc
  further_of g l k x y c after gs ls (moves w0 put0 gs0 ls0 k' x' y' q adds e0 e4 e5) one eg e_l w put e =
      let same : w0 ≡ w = cc e in
      record {
        k' = k';
        x' = x';
        y' = y';
        phase = subst (λ v. InPhase m t g l v k' x' y') same q;
        deeper = omega (arith, e0, one);
        same_g = sym (append-nil (present (stage_g k) x))
            ∙ (ap (λ (ns : List ℕ). present (stage_g k) x ++ ns) (sym eg) ∙ e4);
        same_l = sym (append-nil (present (stage_l k) y))
            ∙ (ap (λ (ns : List ℕ). present (stage_l k) y ++ ns) (sym e_l) ∙ e5);
      }

  clean_when : (h : Happening M) → is_ack_or_delivery h ≡ true → is_clean_one h ≡ true
  clean_when (Acks c) e = refl
  clean_when (Delivers c s) e = refl
  clean_when _ e = cc

  cost_one : (w : World P M) (h : Happening M) → is_ack_or_delivery h ≡ true → cost m w h ≡ 1
  cost_one w (Acks c) e = refl
  cost_one w (Delivers c s) e = refl
  cost_one w _ e = cc

  makes_none : (s : Side) (w : World P M) (h : Happening M) (after : After P M) → is_ack_or_delivery h ≡ true →
      makes s w h after ≡ []
  makes_none s w (Acks c) after e = refl
  makes_none s w (Delivers c z) after e = refl
  makes_none s w _ after e = cc

  -- the rest of the run
  record Finish (g l : Side) (k : Phase) (x y n : ℕ) (r : RunEnd P M) : Type 0 where
    pub more : List (Happening M)
    pub only : are_acks_or_deliveries more ≡ true
    pub few : length more ≤ n
    pub end : RunEnd P M
    pub ran : run_from m (Some r) more ≡ Some end
    pub k' : Phase
    pub x' : ℕ
    pub y' : ℕ
    pub rests : Rests k'
    pub phase : InPhase m t g l end.world k' x' y'
    pub same_g : present (stage_g k) x ≡ present (stage_g k') x'
    pub same_l : present (stage_l k) y ≡ present (stage_l k') y'

  rests_here : (g l : Side) (n : ℕ) (k : Phase) (x y : ℕ) (r : RunEnd P M) → InPhase m t g l r.world k x y → Rests k →
      Finish g l k x y n r
  rests_here g l n k x y r q rests =
      record {
        more = [];
        only = refl;
        few = omega arith;
        end = r;
        ran = refl;
        k' = k;
        x' = x;
        y' = y;
        rests = rests;
        phase = q;
        same_g = refl;
        same_l = refl;
      }

  next_at : IsElecting m t → (g l : Side) → IsPair g l → t.wins g ≡ true → t.wins l ≡ false →
      (k : Phase) (x y : ℕ) (w : World P M) → InPhase m t g l w k x y → (o : StepOnward m t w) →
      Further g l k x y o.world
  next_at el g l pair wins loses k x y w q o =
      further_of g l k x y (cost m w o.h) (happens m w o.h) (makes g w o.h (happens m w o.h))
      (makes l w o.h (happens m w o.h))
      (happening_went m t el g l pair wins loses w k x y q o.h (clean_when o.h o.passes))
      (cost_one w o.h o.passes) (makes_none g w o.h (happens m w o.h) o.passes)
      (makes_none l w o.h (happens m w o.h) o.passes) o.world o.put o.is

  too_deep : (d d' : ℕ) → d + 1 ≤ d' → d' ≤ 9 → 9 ≤ d + 0 → ⊥
  too_deep d d' a b c = omega (arith, a, b, c)

  finish : IsElecting m t → (g l : Side) → IsPair g l → t.wins g ≡ true → t.wins l ≡ false →
      (n : ℕ) (k : Phase) (x y : ℕ) (r : RunEnd P M) → InPhase m t g l r.world k x y → 9 ≤ depth k + n →
      Finish g l k x y n r
  finish el g l pair wins loses zero k x y r q low =
      elim (onward m t el g l pair wins loses r.world k x y q) [
        | inl rests ↦ rests_here g l zero k x y r q rests
        | inr o ↦ absurd (too_deep (depth k) (depth (next_at el g l pair wins loses k x y r.world q o).k')
            (next_at el g l pair wins loses k x y r.world q o).deeper
            (leb-true (depth (next_at el g l pair wins loses k x y r.world q o).k') 9
            (nine_depth (next_at el g l pair wins loses k x y r.world q o).k')) low)
      ]
  finish el g l pair wins loses (suc n) k x y r q low =
      elim (onward m t el g l pair wins loses r.world k x y q) [
        | inl rests ↦ rests_here g l (suc n) k x y r q rests
        | inr o ↦
            let b = next_at el g l pair wins loses k x y r.world q o in
            let deeper = b.deeper in
            let z = finish el g l pair wins loses n b.k' b.x' b.y'
            (record { world = o.world; put = r.put ++ o.put }) b.phase (omega (arith, low, deeper)) in
            let short = z.few in
            record {
              more = o.h ∷ z.more;
              only = and_from (is_ack_or_delivery o.h) (are_acks_or_deliveries z.more) o.passes z.only;
              few = omega (arith, short);
              end = z.end;
              ran = ap (λ a. run_from m (ran_on r a) z.more) o.is ∙ z.ran;
              k' = z.k';
              x' = z.x';
              y' = z.y';
              rests = z.rests;
              phase = z.phase;
              same_g = b.same_g ∙ z.same_g;
              same_l = b.same_l ∙ z.same_l;
            }
      ]

  -- a run that has come to a phase
  pub can_at : IsElecting m t → (g l : Side) → IsPair g l → t.wins g ≡ true → t.wins l ≡ false →
      (w : World P M) (hs : List (Happening M)) (r : RunEnd P M) → run m w hs ≡ Some r →
      Ended m t g l (0 + steps_taken m w hs) (links_made m g w hs) (links_made m l w hs) r → CanFallQuiet m t w hs
  can_at el g l pair wins loses w hs r e z =
      let deep = leb-true (depth z.k) 9 (nine_depth z.k) in
      let f = finish el g l pair wins loses (9 - depth z.k) z.k z.x z.y r z.phase (omega (arith, deep)) in
      let short = f.few in
      let reached = z.reached in
      let named : kept m t.wins w hs ≡ kept_of l (present (stage_l f.k') f.y')
      (kept_of g (present (stage_g f.k') f.x') None) =
      kept_by m t g l pair wins loses w hs
      ∙ (ap (λ ns. kept_of l ns (kept_of g (links_made m g w hs) None)) (z.made_l ∙ f.same_l)
      ∙ ap (λ ns. kept_of l (present (stage_l f.k') f.y') (kept_of g ns None)) (z.made_g ∙ f.same_g)) in
      record {
        more = f.more;
        only = f.only;
        few = omega (arith, short, reached, deep);
        end = f.end;
        runs = run_joined m (Some (record { world = w; put = [] })) hs f.more
            ∙ (ap (λ q. run_from m q f.more) e ∙ f.ran);
        quiet = quiet_end m t g l f.end.world f.k' f.x' f.y' f.phase f.rests;
        opened = subst (λ q. IfSome q (λ k. AreOpenOnKept m f.end.world k)) (sym named)
            (opened_end m t g l pair f.end.world f.k' f.x' f.y' f.phase f.rests);
      }
