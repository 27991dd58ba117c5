-- Where nothing is under way the two sides hold the same connections.
use Rattle.std.proofs.Common.{◌≡◌, ℕ, Bool, true, false, not, ◌&&◌, ◌||◌, List, [], ◌∷◌, refl}
use Rattle.std.proofs.lemmas.Bool.{and_parts, and_from}
use Rattle.dm_machine.specs.declared.state_name.State.TheVariants.{Closed}
use Rattle.dm_two_peers.specs.Machine.{is_tie_held}
use Rattle.dm_two_peers.specs.Links.{Side, A, B, flip, opens, LinkPhase, LinkPending, LinkUp, LinkCancelled, Mark, NoMark, Coming}
use Rattle.dm_two_peers.specs.Links.{Delivered, Direction, Link, view_of}
use Rattle.dm_two_peers.specs.Peers.{Peers}
use Rattle.dm_two_peers.specs.Worlds.{World, peer_on}
use Rattle.dm_two_peers.specs.Happens.{own_view}
use Rattle.dm_two_peers.specs.Facts.{is_up, is_pending, is_empty, is_coming, IsSoundWorld}
use Rattle.dm_two_peers.specs.Quiet.{is_still, is_quiet_link, is_quiet}
use Rattle.dm_two_peers.specs.Sharing.{HoldsLink, QuietIsShared}
use Rattle.dm_two_peers.proofs.StandingSteps.{is_when}
use Rattle.dm_two_peers.proofs.Checks.{conclusion}
use Rattle.dm_two_peers.proofs.Events.{side_sound}
use Rattle.dm_two_peers.proofs.Comings.{standing_at}
use Rattle.dm_two_peers.proofs.OpenNodes.{held_there}
use Rattle.dm_two_peers.proofs.Depths.{all_at}
use Rattle.dm_two_peers.proofs.Holding.{none, one, two, pends, holding_of, none_held}

empty_still : {M : Type 0} (ms : List M) (n : ℕ) (k : Mark) →
    is_still (record { messages = ms; taken = n; mark = k }) ≡ true →
    (is_empty ms ≡ true) × (not (is_coming k) ≡ true)
empty_still [] n NoMark h = (refl, refl)
empty_still [] n Delivered h = (refl, refl)
empty_still [] n Coming h = cc
empty_still (x ∷ xs) n k h = cc

pub still_at : {M : Type 0} (d : Direction M) → is_still d ≡ true →
    (is_empty d.messages ≡ true) × (not (is_coming d.mark) ≡ true)
still_at d h = empty_still d.messages d.taken d.mark h

pub not_pending : (p : LinkPhase) (b mine : Bool) → elim p [ LinkPending ↦ false | _ ↦ b ] ≡ true →
    (is_up p || (is_pending p && mine)) ≡ true → (is_up p ≡ true) × (b ≡ true)
not_pending LinkUp b mine q h = (refl, q)
not_pending LinkPending b mine q h = cc
not_pending LinkCancelled b mine q h = cc

pub seen_both : {M : Type 0} (mine : Bool) (l : Link M) → is_still l.to_opener ≡ true → is_still l.to_other ≡ true →
    (is_still (view_of mine l).incoming ≡ true) × (is_still (view_of mine l).outgoing ≡ true)
seen_both true l a b = (a, b)
seen_both false l a b = (b, a)

pub shares : {P M : Type 0} (m : Peers P M) (w : World P M) → IsSoundWorld m w → is_quiet w ≡ true →
    (s : Side) (c : ℕ) →
    HoldsLink m w s c → HoldsLink m w (flip s) c
shares m w good quiet s c held =
    let g = side_sound m s w good in
    let at = held_there s (m.node_of (peer_on s w)) (m.node_of (peer_on (flip s) w)) w.links c g held in
    let l = at.0 in
    let st = standing_at m s w c l in
    let mine = opens s l.opener in
    let sound = g.each c l at.1 in
    let here = is_when (is_tie_held st.own_tie) _ (conclusion 1 mine st sound) held in
    let calm = not_pending l.phase (is_still l.to_opener && is_still l.to_other) mine
    (all_at (λ z. is_quiet_link z) w.links c l quiet at.1) here in
    let ways = and_parts (is_still l.to_opener) (is_still l.to_other) calm.1 in
    let seen = seen_both mine l ways.0 ways.1 in
    let i = still_at (own_view s l).incoming seen.0 in
    let o = still_at (own_view s l).outgoing seen.1 in
    is_when _ _ (conclusion 6 mine st sound)
    (and_from (is_up st.phase) _ calm.0 (and_from (is_tie_held st.own_tie) _ held (and_from st.in_empty _ i.0
    (and_from st.out_empty _ o.0 (and_from (not (is_coming st.in_mark)) (not (is_coming st.out_mark)) i.1 o.1)))))

-- where one side is Closed, what the other held it would hold too
closed_both : {P M : Type 0} (m : Peers P M) (w : World P M) → IsSoundWorld m w → is_quiet w ≡ true → (s : Side) →
    (m.node_of (peer_on s w)).state ≡ Closed → (m.node_of (peer_on (flip s) w)).state ≡ Closed
closed_both m w good quiet s e =
    let g = side_sound m s w good in
    elim (holding_of (m.node_of (peer_on (flip s) w)) g.other_shaped) [
      | none closed ↦ closed
      | one role c stands held taken only ↦ absurd (holds_none c held)
      | two i r state held taken held' taken' ↦ absurd (holds_none i held)
      | pends c held connects ↦ absurd (holds_none c held)
    ]
  where
    holds_none : (c : ℕ) → HoldsLink m w (flip s) c → ⊥
    holds_none c held = none_held (m.node_of (peer_on s w)) c (side_sound m s w good).own_shaped e
        (back s (shares m w good quiet (flip s) c held))
      where
        back : (z : Side) → HoldsLink m w (flip (flip z)) c → HoldsLink m w z c
        back A h = h
        back B h = h

pub quiet_is_shared_proof : {P M : Type 0} → QuietIsShared P M
quiet_is_shared_proof m w good quiet =
    record { held = λ s c h. shares m w good quiet s c h; closed = λ s e. closed_both m w good quiet s e }
