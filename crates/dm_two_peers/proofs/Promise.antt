-- What a sound world has.
use Rattle.std.proofs.Common.{◌≡◌, ℕ, Bool, true, false, not, ◌&&◌, ◌||◌, Option, Some, None}
use Rattle.std.proofs.Common.{IfSome, List, [], ◌∷◌, refl, sym, ap, subst, ◌⊎◌, inl, inr}
use Rattle.std.specs.Prelude.{◌↔◌}
use Rattle.std.proofs.lemmas.Bool.{cases_eq, and_parts, and_from, or_cases}
use Rattle.std.proofs.lemmas.Option.{IfSome_then}
use Rattle.dm_two_peers.specs.Machine.{Role, Initiated, Accepted}
use Rattle.dm_two_peers.specs.Machine.{is_same_role, tie_of, is_tie_held}
use Rattle.dm_two_peers.specs.Links.{Side, A, B, flip, opens, LinkPhase, LinkPending, LinkUp, LinkCancelled, Open}
use Rattle.dm_two_peers.specs.Peers.{Peers}
use Rattle.dm_two_peers.specs.Worlds.{World, peer_on, After, DoneWith, Ignored, NoLink}
use Rattle.dm_two_peers.specs.Happens.{Happening, own_view, happens, world_after, RunEnd, ran_on, run_from, run}
use Rattle.dm_two_peers.specs.Follows.{IsMachine}
use Rattle.dm_two_peers.specs.Facts.{Standing, turned_over, is_sound_standing, is_up, is_pending, is_open_end, is_coming}
use Rattle.dm_two_peers.specs.Facts.{IsSoundWorld}
use Rattle.dm_two_peers.specs.Agreement.{IsOpenOn, HasComingDisconnect, Agreed, EndsAreHeld, HeldAreLinks, OpenIsMatched}
use Rattle.dm_two_peers.specs.Laws.{Promised}
use Rattle.dm_two_peers.proofs.Every.{all_true, every_bool, every_tie, every_phase, every_end, every_mark, every_standing}
use Rattle.dm_two_peers.proofs.Every.{at_standing}
use Rattle.dm_two_peers.proofs.StandingSteps.{when, is_when}
use Rattle.dm_two_peers.proofs.StandingOthers.{is_open_tie, is_taken, same_bool}
use Rattle.dm_two_peers.proofs.Checks.{conclusion}
use Rattle.dm_two_peers.proofs.Ties.{MachineLaws}
use Rattle.dm_two_peers.proofs.Events.{side_sound}
use Rattle.dm_two_peers.proofs.Comings.{standing_at}
use Rattle.dm_two_peers.proofs.Happenings.{happens_sound}
use Rattle.dm_two_peers.proofs.OpenNodes.{opens_on, held_there, open_held, open_is, coming_is, up_is, is_up_at, pending_is}
use Rattle.dm_two_peers.proofs.OpenNodes.{opener_is, same_left, same_right, is_open_at}

-- a side's open ends are what it holds
-- a cancelled link has no open end, and no side holds it
abbrev none_cancelled : Standing → Bool
none_cancelled s =
    when (is_sound_standing s)
    (when (not (is_up s.phase) && not (is_pending s.phase))
    (same_bool (is_open_end s.own) (is_tie_held s.own_tie) && same_bool (is_open_end s.other) (is_tie_held s.other_tie)))

none_cancelled_checked : every_standing none_cancelled ≡ true
unfolding all_true every_bool every_tie every_phase every_end every_mark
none_cancelled_checked = refl

cancelled_ends : (mine : Bool) (s : Standing) → is_sound_standing (turned_over mine s) ≡ true → s.phase ≡ LinkCancelled →
    same_bool (is_open_end s.own) (is_tie_held s.own_tie) ≡ true
cancelled_ends mine s good is = by_mine mine good
  where
    both : (s : Standing) → is_sound_standing s ≡ true → s.phase ≡ LinkCancelled →
        (same_bool (is_open_end s.own) (is_tie_held s.own_tie) ≡ true)
        × (same_bool (is_open_end s.other) (is_tie_held s.other_tie) ≡ true)
    both s good is =
        and_parts (same_bool (is_open_end s.own) (is_tie_held s.own_tie))
        (same_bool (is_open_end s.other) (is_tie_held s.other_tie))
        (is_when (not (is_up s.phase) && not (is_pending s.phase)) _
        (is_when (is_sound_standing s) _ (at_standing none_cancelled none_cancelled_checked s) good)
        (ap (λ p. not (is_up p) && not (is_pending p)) is))

    by_mine : (mine : Bool) → is_sound_standing (turned_over mine s) ≡ true →
        same_bool (is_open_end s.own) (is_tie_held s.own_tie) ≡ true
    by_mine true good = (both s good is).0
    by_mine false good = (both (turned_over false s) good is).1

ends_are_held_proof : {P M : Type 0} (m : Peers P M) (w : World P M) → IsSoundWorld m w → EndsAreHeld m w
ends_are_held_proof m w good s c l at unpending = by_phase l.phase refl
  where
    st : Standing
    st = standing_at m s w c l

    both_ways : same_bool (is_open_end st.own) (is_tie_held st.own_tie) ≡ true →
        ((own_view s l).own ≡ Open) ↔ (is_tie_held st.own_tie ≡ true)
    both_ways both = (
      λ h. same_right (is_open_end st.own) (is_tie_held st.own_tie) both (is_open_at st.own h),
      λ h. open_is st.own (same_left (is_open_end st.own) (is_tie_held st.own_tie) both h),
    )

    by_phase : (p : LinkPhase) → l.phase ≡ p → ((own_view s l).own ≡ Open) ↔ (is_tie_held st.own_tie ≡ true)
    by_phase LinkUp e =
        both_ways
        (is_when (is_up st.phase) _
        (conclusion 0 (opens s l.opener) st ((side_sound m s w good).each c l at)) (is_up_at l.phase e))
    by_phase LinkPending e = absurd (unpending e)
    by_phase LinkCancelled e =
        both_ways (cancelled_ends (opens s l.opener) st ((side_sound m s w good).each c l at) e)

held_are_links_proof : {P M : Type 0} (m : Peers P M) (w : World P M) → IsSoundWorld m w → HeldAreLinks m w
held_are_links_proof m w good s c held =
    let g = side_sound m s w good in
    let at = held_there s (m.node_of (peer_on s w)) (m.node_of (peer_on (flip s) w)) w.links c g held in
    let l = at.0 in
    let st = standing_at m s w c l in
    let mine = opens s l.opener in
    let here = is_when (is_tie_held st.own_tie) _ (conclusion 1 mine st (g.each c l at.1)) held in
    record {
      link = l;
      there = at.1;
      stands = elim (or_cases (is_up st.phase) (is_pending st.phase && mine) here) [
        | inl up ↦ inl (up_is l.phase up)
        | inr rest ↦
            let parts = and_parts (is_pending st.phase) mine rest in
            inr (pending_is l.phase parts.0, opener_is s l.opener parts.1)
      ];
    }

-- where a node is open, the other end is open or a disconnect is coming
open_is_matched_proof : {P M : Type 0} (m : Peers P M) (w : World P M) → IsSoundWorld m w → OpenIsMatched m w
open_is_matched_proof m w good s r c o =
    let g = side_sound m s w good in
    let own = m.node_of (peer_on s w) in
    let tie = (opens_on own r c g.own_shaped o).tie in
    let at = held_there s own (m.node_of (peer_on (flip s) w)) w.links c g (open_held (tie_of own c) tie) in
    let l = at.0 in
    let st = standing_at m s w c l in
    let here = is_when (is_open_tie st.own_tie) _ (conclusion 2 (opens s l.opener) st (g.each c l at.1)) tie in
    let parts = and_parts (is_up st.phase) (is_open_end st.other || is_coming st.in_mark) here in
    record {
      link = l;
      there = at.1;
      up = up_is l.phase parts.0;
      matched = elim (or_cases (is_open_end st.other) (is_coming st.in_mark) parts.1) [
        | inl e ↦ inl (open_is st.other e)
        | inr e ↦ inr (coming_is st.in_mark e)
      ];
    }

-- the other side holds it, or a disconnect is coming
other_holds : {P M : Type 0} (m : Peers P M) (w : World P M) → IsSoundWorld m w → (s : Side) (r : Role) (c : ℕ) →
    IsOpenOn (m.node_of (peer_on s w)) r c →
    (is_tie_held (tie_of (m.node_of (peer_on (flip s) w)) c) ≡ true) ⊎ HasComingDisconnect w c s
other_holds m w good s r c o =
    let match = open_is_matched_proof m w good s r c o in
    let l = match.link in
    let st = standing_at m s w c l in
    elim match.matched [
      | inl e ↦ inl (is_when (is_open_end st.other && is_up st.phase) _
          (conclusion 4 (opens s l.opener) st ((side_sound m s w good).each c l match.there))
          (and_from (is_open_end st.other) (is_up st.phase) (is_open_at st.other e) (is_up_at l.phase match.up)))
      | inr e ↦ inr (record { link = l; there = match.there; coming = e })
    ]

pub roles_apart : (r r' : Role) (a b : Bool) → a ≡ is_same_role r Accepted → b ≡ is_same_role r' Accepted →
    not (same_bool a b) ≡ true → is_same_role r r' ≡ false
roles_apart Initiated Accepted a b p q h = refl
roles_apart Accepted Initiated a b p q h = refl
roles_apart Initiated Initiated a b p q h =
    cc (subst (λ x. not (same_bool x (is_same_role Initiated Accepted)) ≡ true) p
    (subst (λ y. not (same_bool a y) ≡ true) q h))
roles_apart Accepted Accepted a b p q h =
    cc (subst (λ x. not (same_bool x (is_same_role Accepted Accepted)) ≡ true) p
    (subst (λ y. not (same_bool a y) ≡ true) q h))

opposite : {P M : Type 0} (m : Peers P M) (w : World P M) → IsSoundWorld m w → (r r' : Role) (c : ℕ) →
    IsOpenOn (m.node_of w.a) r c → IsOpenOn (m.node_of w.b) r' c → is_same_role r r' ≡ false
opposite m w good r r' c o o' =
    let mine = opens_on (m.node_of w.a) r c good.own_shaped o in
    let other = opens_on (m.node_of w.b) r' c good.other_shaped o' in
    let match = open_is_matched_proof m w good A r c o in
    let st = standing_at m A w c match.link in
    let here = is_when (is_tie_held st.own_tie && is_tie_held st.other_tie) _
    (conclusion 3 (opens A match.link.opener) st (good.each c match.link match.there))
    (and_from (is_tie_held st.own_tie) (is_tie_held st.other_tie) (open_held st.own_tie mine.tie)
    (open_held st.other_tie other.tie)) in
    roles_apart r r' (is_taken st.own_tie) (is_taken st.other_tie) mine.role other.role here

agreed_proof : {P M : Type 0} (m : Peers P M) (w : World P M) → IsSoundWorld m w → Agreed m w
agreed_proof m w good =
    record {
      one_a = λ r r' c d o o'.
          (opens_on (m.node_of w.a) r c good.own_shaped o).only d
          (open_held (tie_of (m.node_of w.a) d) (opens_on (m.node_of w.a) r' d good.own_shaped o').tie);
      one_b = λ r r' c d o o'.
          (opens_on (m.node_of w.b) r c good.other_shaped o).only d
          (open_held (tie_of (m.node_of w.b) d) (opens_on (m.node_of w.b) r' d good.other_shaped o').tie);
      both = λ r r' c d o o'.
          elim (cases_eq c d) [
            | inl same ↦ inl (record {
              same = same;
              opposite = opposite m w good r r' c o
                  (subst (λ n. IsOpenOn (m.node_of w.b) r' n) (sym same) o');
            })
            | inr apart ↦ inr (record {
              apart = apart;
              to_a = elim (other_holds m w good A r c o) [
                | inl held ↦ absurd (apart (sym ((opens_on (m.node_of w.b) r' d good.other_shaped o').only c held)))
                | inr coming ↦ coming
              ];
              to_b = elim (other_holds m w good B r' d o') [
                | inl held ↦ absurd (apart ((opens_on (m.node_of w.a) r c good.own_shaped o).only d held))
                | inr coming ↦ coming
              ];
            })
          ];
    }

pub promised_proof : {P M : Type 0} (m : Peers P M) (w : World P M) → IsSoundWorld m w → Promised m w
promised_proof m w good =
    record {
      agreed = agreed_proof m w good;
      ends_are_held = ends_are_held_proof m w good;
      held_are_links =
          held_are_links_proof m w good;
      open_is_matched = open_is_matched_proof m w good;
    }

-- runs
ran_sound : {P M : Type 0} (m : Peers P M) (r : RunEnd P M) (o : After P M) → IsSoundWorld m (world_after r.world o) →
    IfSome (ran_on r o) (λ r. IsSoundWorld m r.world)
ran_sound m r (DoneWith next put) good = good
ran_sound m r Ignored good = good
ran_sound m r NoLink good = tt

pub run_sound : {P M : Type 0} (m : Peers P M) → MachineLaws → IsMachine m →
    (o : Option (RunEnd P M)) (hs : List (Happening M)) → IfSome o (λ r. IsSoundWorld m r.world) →
    IfSome (run_from m o hs) (λ r. IsSoundWorld m r.world)
run_sound m laws is None hs good = tt
run_sound m laws is (Some r) [] good = good
run_sound m laws is (Some r) (h ∷ hs) good =
    run_sound m laws is (ran_on r (happens m r.world h)) hs
    (ran_sound m r (happens m r.world h) (happens_sound m laws is r.world h good))

pub run_promised : {P M : Type 0} (m : Peers P M) → MachineLaws → IsMachine m →
    (w : World P M) (hs : List (Happening M)) → IsSoundWorld m w → IfSome (run m w hs) (λ r. Promised m r.world)
run_promised m laws is w hs good =
    IfSome_then (run m w hs) (run_sound m laws is (Some (record { world = w; put = [] })) hs good)
    (λ r sound. promised_proof m r.world sound)
