-- What two restarts leave of each link: it is cancelled with nothing under way, or both its ends are shut.
use Rattle.std.proofs.Common.{◌≡◌, ℕ, zero, suc, ◌+◌, Bool, true, false, ◌&&◌, Some, List, [], ◌∷◌, map, slice_get}
use Rattle.std.proofs.Common.{refl, sym, ap, subst, ◌∙◌, arith}
use Rattle.std.specs.List.{list_all}
use Rattle.std.proofs.lemmas.Bool.{and_parts, and_from}
use Rattle.std.proofs.lemmas.Option.{slice_get-map}
use Rattle.dm_two_peers.specs.Links.{Side, A, B, opens, LinkPhase, LinkPending, LinkUp, LinkCancelled, End, Mark, NoMark, Coming}
use Rattle.dm_two_peers.specs.Links.{Delivered, Direction, Link, by_side}
use Rattle.dm_two_peers.specs.Peers.{Peers}
use Rattle.dm_two_peers.specs.Worlds.{World, change_at}
use Rattle.dm_two_peers.specs.Happens.{restarted, restart_links}
use Rattle.dm_two_peers.specs.Facts.{is_up, is_shut, IsSoundWorld}
use Rattle.dm_two_peers.specs.Quiet.{is_still}
use Rattle.dm_two_peers.specs.Bare.{is_bare_way}
use Rattle.dm_two_peers.specs.Draining.{under_way_on, under_way}
use Rattle.dm_two_peers.proofs.Lists.{mapped_some, all_where}
use Rattle.dm_two_peers.proofs.Bare.{bare_at}

-- cancelled with nothing under way, or with both its ends shut
abbrev pub is_dead : {M : Type 0} → Link M → Bool
is_dead l =
    elim l.phase [
      | LinkPending ↦ false
      | LinkUp ↦ is_shut l.opener_end && is_shut l.other_end
      | LinkCancelled ↦ is_still l.to_opener && is_still l.to_other
    ]

abbrev pub are_dead : {M : Type 0} → List (Link M) → Bool
are_dead links = list_all (λ l. is_dead l) links

abbrev restarts_at : {M : Type 0} → Side → Link M → Link M
restarts_at s l = by_side s (restarted (opens s l.opener)) l

dead_at : {M : Type 0} (o : Side) (p : LinkPhase) (u v : End) (i j : Direction M) →
    (is_up p ≡ false → (is_still i && is_still j) ≡ true) →
    is_dead (restarts_at B (restarts_at A
    (record { opener = o; phase = p; opener_end = u; other_end = v; to_opener = i; to_other = j }))) ≡ true
dead_at A LinkPending u v i j h = h refl
dead_at A LinkCancelled u v i j h = h refl
dead_at A LinkUp u v i j h = refl
dead_at B LinkPending u v i j h = h refl
dead_at B LinkCancelled u v i j h = h refl
dead_at B LinkUp u v i j h = refl

-- where nothing was put in nothing is under way
still_from : {M : Type 0} (ms : List M) (n : ℕ) (k : Mark) →
    is_bare_way (record { messages = ms; taken = n; mark = k }) ≡ true →
    is_still (record { messages = ms; taken = n; mark = k }) ≡ true
still_from [] n NoMark h = refl
still_from [] n Coming h = cc
still_from [] n Delivered h = cc
still_from (x ∷ xs) n k h = cc

still_at : {P M : Type 0} (m : Peers P M) (w : World P M) → IsSoundWorld m w → (c : ℕ) (l : Link M) →
    slice_get w.links c ≡ Some l → is_up l.phase ≡ false → (is_still l.to_opener && is_still l.to_other) ≡ true
still_at m w good c l at down =
    let p = and_parts (is_bare_way l.to_opener) (is_bare_way l.to_other) (bare_at m w good c l at down) in
    and_from (is_still l.to_opener) (is_still l.to_other)
    (still_from l.to_opener.messages l.to_opener.taken l.to_opener.mark p.0)
    (still_from l.to_other.messages l.to_other.taken l.to_other.mark p.1)

pub dead_after : {P M : Type 0} (m : Peers P M) (w : World P M) → IsSoundWorld m w →
    are_dead (restart_links B (restart_links A w.links)) ≡ true
dead_after {P} {M} m w good =
    all_where (λ l. is_dead l) (restart_links B (restart_links A w.links))
    (λ c l at.
    let f : Link M → Link M = λ x. restarts_at A x in
    let g : Link M → Link M = λ x. restarts_at B x in
    let later = mapped_some g (slice_get (map f w.links) c) l (sym (slice_get-map g (map f w.links) c) ∙ at) in
    let old = mapped_some f (slice_get w.links c) later.0 (sym (slice_get-map f w.links c) ∙ later.1) in
    let x = old.0 in
    subst (λ y. is_dead y ≡ true) (sym (later.2 ∙ ap g old.2))
    (dead_at x.opener x.phase x.opener_end x.other_end x.to_opener x.to_other (still_at m w good c x old.1)))

-- one link of a list is changed
pub dead_changed : {M : Type 0} (links : List (Link M)) (c : ℕ) (l : Link M) (f : Link M → Link M) →
    are_dead links ≡ true → slice_get links c ≡ Some l → is_dead (f l) ≡ true → are_dead (change_at c f links) ≡ true
dead_changed [] c l f h e d = cc
dead_changed (z ∷ zs) zero l f h e d =
    let same : l ≡ z = cc e in
    and_from (is_dead (f z)) (are_dead zs) (subst (λ y. is_dead (f y) ≡ true) same d)
    (and_parts (is_dead z) (are_dead zs) h).1
dead_changed (z ∷ zs) (suc c) l f h e d =
    let p = and_parts (is_dead z) (are_dead zs) h in
    and_from (is_dead z) (are_dead (change_at c f zs)) p.0 (dead_changed zs c l f p.1 e d)

one_less : (a b n : ℕ) → a + 1 ≡ b → a + n + 1 ≡ b + n
one_less a b n h = omega (arith, h)

rest_less : (a n k : ℕ) → n + 1 ≡ k → a + n + 1 ≡ a + k
rest_less a n k h = omega (arith, h)

pub less_changed : {M : Type 0} (links : List (Link M)) (c : ℕ) (l : Link M) (f : Link M → Link M) →
    slice_get links c ≡ Some l → under_way_on (f l) + 1 ≡ under_way_on l →
    under_way (change_at c f links) + 1 ≡ under_way links
less_changed [] c l f e d = cc
less_changed (z ∷ zs) zero l f e d =
    let same : l ≡ z = cc e in
    one_less (under_way_on (f z)) (under_way_on z) (under_way zs)
    (subst (λ y. under_way_on (f y) + 1 ≡ under_way_on y) same d)
less_changed (z ∷ zs) (suc c) l f e d = rest_less (under_way_on z) (under_way (change_at c f zs)) (under_way zs)
    (less_changed zs c l f e d)
