-- A phase that rests is quiet, with both open on the link that is kept.
use Rattle.std.proofs.Common.{◌≡◌, ℕ, ◌==◌, true, false, Some, None, IfSome, slice_get, refl, sym, ap, ◌∙◌, inl, inr}
use Rattle.std.specs.Prelude.{option_map}
use Rattle.std.proofs.lemmas.Bool.{cases_Bool, eqb-true}
use Rattle.dm_two_peers.specs.Links.{Side, NoMark, Delivered, Link, link_of}
use Rattle.dm_two_peers.specs.Peers.{Peers}
use Rattle.dm_two_peers.specs.Worlds.{World}
use Rattle.dm_two_peers.specs.Quiet.{is_quiet_link, is_quiet, kept_of}
use Rattle.dm_two_peers.specs.Electing.{Talks}
use Rattle.dm_two_peers.specs.Settled.{AreOpenOnKept}
use Rattle.dm_two_peers.proofs.Pairs.{IsPair, swapped}
use Rattle.dm_two_peers.proofs.Stages.{Stage, Unmade, Accepted, Parted}
use Rattle.dm_two_peers.proofs.Acting.{own_at}
use Rattle.dm_two_peers.proofs.Phases.{Phase, stage_g, stage_l, present, InPhase}
use Rattle.dm_two_peers.proofs.Phasing.{flip_in}
use Rattle.dm_two_peers.proofs.Depths.{Rests, idle, only_g, only_l, both, still}
use Rattle.dm_two_peers.proofs.Settling.{are_open}
use Rattle.dm_two_peers.proofs.Lists.{all_where, same_test}

-- a world is quiet where the links of two numbers are, and all others
pub quiet_where : {P M : Type 0} (w : World P M) (x y : ℕ) →
    ((z : Link M) → slice_get w.links x ≡ Some z → is_quiet_link z ≡ true) →
    ((z : Link M) → slice_get w.links y ≡ Some z → is_quiet_link z ≡ true) →
    ((d : ℕ) (z : Link M) → slice_get w.links d ≡ Some z → (x == d) ≡ false → (y == d) ≡ false →
    is_quiet_link z ≡ true) → is_quiet w ≡ true
quiet_where w x y at_x at_y others =
    all_where (λ z. is_quiet_link z) w.links
    (λ d z at. elim (cases_Bool (x == d)) [
      | inl hx ↦ at_x z (ap (λ (c : ℕ). slice_get w.links c) (eqb-true x d hx) ∙ at)
      | inr hx ↦ elim (cases_Bool (y == d)) [
        | inl hy ↦ at_y z (ap (λ (c : ℕ). slice_get w.links c) (eqb-true y d hy) ∙ at)
        | inr hy ↦ others d z at hx hy
      ]
    ])

module _ {P M C H : Type 0} (m : Peers P M) (t : Talks P M C H) where
  -- a resting phase is quiet
  still_link : (s o : Side) (st : Stage) (h i j : ℕ) (q : Link M) → still st ≡ true →
      option_map (link_of true s) (own_at m t s o st h i j) ≡ Some q → is_quiet_link q ≡ true
  still_link s o Unmade h i j q r e = cc
  still_link s o Accepted h i j q r e = same_test (λ z. is_quiet_link z) _ q e refl
  still_link s o (Parted NoMark NoMark) h i j q r e = same_test (λ z. is_quiet_link z) _ q e refl
  still_link s o (Parted NoMark Delivered) h i j q r e = same_test (λ z. is_quiet_link z) _ q e refl
  still_link s o (Parted Delivered NoMark) h i j q r e = same_test (λ z. is_quiet_link z) _ q e refl
  still_link s o (Parted Delivered Delivered) h i j q r e = same_test (λ z. is_quiet_link z) _ q e refl
  still_link s o _ h i j q r e = cc

  rest_g : (k : Phase) → Rests k → still (stage_g k) ≡ true
  rest_g k idle = refl
  rest_g k only_g = refl
  rest_g k only_l = refl
  rest_g k both = refl

  rest_l : (k : Phase) → Rests k → still (stage_l k) ≡ true
  rest_l k idle = refl
  rest_l k only_g = refl
  rest_l k only_l = refl
  rest_l k both = refl

  pub quiet_end : (g l : Side) (w : World P M) (k : Phase) (x y : ℕ) → InPhase m t g l w k x y → Rests k →
      is_quiet w ≡ true
  quiet_end g l w k x y q rests =
      quiet_where w x y (λ z at. still_link g l (stage_g k) q.h q.i q.j z (rest_g k rests) (sym q.at.at_x ∙ at))
      (λ z at. still_link l g (stage_l k) q.h' q.i' q.j' z (rest_l k rests)
      (sym (flip_in m t g l w k x y q).at_x ∙ at))
      (λ d z at hx hy. q.at.others d z at hx hy)

  -- and both are open there on the link that is kept
  pub opened_end : (g l : Side) → IsPair g l → (w : World P M) (k : Phase) (x y : ℕ) → InPhase m t g l w k x y →
      Rests k → IfSome (kept_of l (present (stage_l k) y) (kept_of g (present (stage_g k) x) None))
      (λ z. AreOpenOnKept m w z)
  opened_end g l pair w k x y q idle = tt
  opened_end g l pair w k x y q only_g = are_open m t g l pair w x q.at.own.node q.at.other.node
  opened_end g l pair w k x y q only_l = are_open m t l g (swapped pair) w y q.at.other.node q.at.own.node
  opened_end g l pair w k x y q both = are_open m t l g (swapped pair) w y q.at.other.node q.at.own.node
