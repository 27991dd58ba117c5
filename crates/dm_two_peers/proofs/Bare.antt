-- A link that isn't up carries nothing.
use Rattle.std.proofs.Common.{◌≡◌, Bool, true, false, not, ◌&&◌, refl}
use Rattle.std.proofs.lemmas.Bool.{and_parts, and_from}
use Rattle.dm_two_peers.specs.Links.{A, opens, Link, view_of}
use Rattle.dm_two_peers.specs.Facts.{is_up, is_none}
use Rattle.dm_two_peers.specs.Bare.{is_bare_way, OnlyUpLinksCarry}
use Rattle.dm_two_peers.proofs.StandingSteps.{is_when}
use Rattle.dm_two_peers.proofs.Checks.{conclusion}
use Rattle.dm_two_peers.proofs.Comings.{standing_at}

by_ends : {M : Type 0} (mine : Bool) (l : Link M) → is_bare_way (view_of mine l).incoming ≡ true →
    is_bare_way (view_of mine l).outgoing ≡ true → (is_bare_way l.to_opener && is_bare_way l.to_other) ≡ true
by_ends true l h k = and_from (is_bare_way l.to_opener) (is_bare_way l.to_other) h k
by_ends false l h k = and_from (is_bare_way l.to_opener) (is_bare_way l.to_other) k h

unless_up : (b : Bool) → b ≡ false → not b ≡ true
unless_up b h = rw h refl

pub bare_at : {P M : Type 0} → OnlyUpLinksCarry P M
bare_at m w good c l at down =
    let mine = opens A l.opener in
    let st = standing_at m A w c l in
    let here = is_when (not (is_up st.phase)) _ (conclusion 7 mine st (good.each c l at))
    (unless_up (is_up l.phase) down) in
    let p = and_parts st.in_empty _ here in
    let q = and_parts st.out_empty _ p.1 in
    let r = and_parts (is_none st.in_mark) (is_none st.out_mark) q.1 in
    by_ends mine l (and_from st.in_empty (is_none st.in_mark) p.0 r.0)
    (and_from st.out_empty (is_none st.out_mark) q.0 r.1)
