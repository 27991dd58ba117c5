-- An event that a peer takes, and a change of one link, keeps a world sound.
use Rattle.std.proofs.Common.{◌≡◌, ℕ, ◌≤◌, ◌==◌, true, false, Some}
use Rattle.std.proofs.Common.{List, length, slice_get, refl, sym, ap, subst, ◌∙◌, arith, inl, inr}
use Rattle.std.proofs.lemmas.Bool.{cases_eq}
use Rattle.std.proofs.lemmas.Bool.Decides.{nat_tests}
use Rattle.std.proofs.lemmas.Option.{slice_get_within}
use Rattle.dm_two_peers.specs.Machine.{conn, Node, LinkConcern, Elsewhere, concern_if_named}
use Rattle.dm_two_peers.specs.Machine.{tie_of}
use Rattle.dm_two_peers.specs.Links.{Side, A, B, flip, opens}
use Rattle.dm_two_peers.specs.Links.{Link, View, view_of, by_side}
use Rattle.dm_two_peers.specs.Peers.{Event, StartEvent, Reply, ActsBy, Declines, Peers, concern_by}
use Rattle.dm_two_peers.specs.Worlds.{World, peer_on, with_peer, with_links, change_at, after_reply}
use Rattle.dm_two_peers.specs.Worlds.{tell}
use Rattle.dm_two_peers.specs.Happens.{world_after}
use Rattle.dm_two_peers.specs.Follows.{IsMachine}
use Rattle.dm_two_peers.specs.Facts.{standing_of, IsSoundView, IsSoundLink, AreSound, IsSoundWorld}
use Rattle.dm_two_peers.proofs.StandingSteps.{is_handed}
use Rattle.dm_two_peers.proofs.Ties.{MachineLaws, ties_kept}
use Rattle.dm_two_peers.proofs.Stepped.{IsStart}
use Rattle.dm_two_peers.proofs.Lists.{view_link, mapped_some, change_at-tested, length-change_at}
use Rattle.dm_two_peers.proofs.Keeps.{Hands, step_keeps, flip_link, sound_flip}
use Rattle.dm_two_peers.proofs.StartKeeps.{start_keeps}

pub side_sound : {P M : Type 0} (m : Peers P M) (s : Side) (w : World P M) → IsSoundWorld m w →
    AreSound s (m.node_of (peer_on s w)) (m.node_of (peer_on (flip s) w)) w.links
side_sound m A w good = good
side_sound m B w good = sound_flip A (m.node_of w.a) (m.node_of w.b) w.links good

pub sound_back : {P M : Type 0} (m : Peers P M) (s : Side) (w : World P M) (p : P) (links : List (Link M)) →
    AreSound s (m.node_of p) (m.node_of (peer_on (flip s) w)) links → IsSoundWorld m (with_peer s p links w)
sound_back m A w p links good = good
sound_back m B w p links good = sound_flip B (m.node_of p) (m.node_of w.a) links good

-- a peer takes an event that is no Start
answered_sound : {P M : Type 0} (m : Peers P M) → MachineLaws → IsMachine m →
    (s : Side) (e : Event M) (w : World P M) (r : Reply P M) → m.reply (peer_on s w) e ≡ r → IsSoundWorld m w →
    Hands s (m.node_of (peer_on s w)) (m.node_of (peer_on (flip s) w)) e w.links → (IsStart e → ⊥) →
    ((c : ℕ) → length w.links ≤ c → concern_by e (conn c) ≡ Elsewhere) →
    IsSoundWorld m (world_after w (after_reply m s e w r))
answered_sound m laws is s e w Declines eq good hands no_start later = good
answered_sound m laws is s e w (ActsBy actions p) eq good hands no_start later =
    let g = side_sound m s w good in
    sound_back m s w p _
    (step_keeps s (m.node_of (peer_on s w)) (m.node_of p)
    (m.node_of (peer_on (flip s) w)) e actions w.links g hands
    (ties_kept m (peer_on s w) p e actions laws is g.own_shaped eq) no_start later)

pub started_sound : {P M : Type 0} (m : Peers P M) → MachineLaws → IsMachine m →
    (s : Side) (w : World P M) (r : Reply P M) → m.reply (peer_on s w) (StartEvent (conn (length w.links))) ≡ r →
    IsSoundWorld m w → IsSoundWorld m (world_after w (after_reply m s (StartEvent (conn (length w.links))) w r))
started_sound m laws is s w Declines eq good = good
started_sound {P} {M} m laws is s w (ActsBy actions p) eq good =
    let g = side_sound m s w good in
    let e : Event M = StartEvent (conn (length w.links)) in
    sound_back m s w p _
    (start_keeps s (m.node_of (peer_on s w)) (m.node_of p) (m.node_of (peer_on (flip s) w)) actions w.links g
    (ties_kept m (peer_on s w) p e actions laws is g.own_shaped eq))

-- an event that concerns no link
pub calm_sound : {P M : Type 0} (m : Peers P M) → MachineLaws → IsMachine m →
    (s : Side) (e : Event M) (w : World P M) → IsSoundWorld m w → (IsStart e → ⊥) →
    ((c : ℕ) → concern_by e (conn c) ≡ Elsewhere) → IsSoundWorld m (world_after w (tell m s e w))
calm_sound m laws is s e w good no_start calm =
    answered_sound m laws is s e w (m.reply (peer_on s w) e) refl good
    (record {
      handed = λ d l at. subst
          (λ k. is_handed (opens s l.opener) k
          (standing_of (tie_of (m.node_of (peer_on s w)) d) (tie_of (m.node_of (peer_on (flip s) w)) d)
          (view_of (opens s l.opener) l)) ≡ true) (sym (calm d)) refl;
    })
    no_start (λ c h. calm c)

-- an event that concerns one link
named_here : (c : ℕ) (k : LinkConcern) → concern_if_named (conn c) (conn c) k ≡ k
named_here c k = grind (arith, nat_tests)

named_other : (c d : ℕ) (k : LinkConcern) → (d ≡ c → ⊥) → concern_if_named (conn c) (conn d) k ≡ Elsewhere
named_other c d k h = grind (arith, nat_tests)

pub same_link : {X : Type 0} (xs : List X) (c : ℕ) (x y : X) → slice_get xs c ≡ Some x → slice_get xs c ≡ Some y →
    x ≡ y
same_link xs c x y h k = cc

pub hands_at : {M : Type 0} (s : Side) (own other : Node) (e : Event M) (k : LinkConcern) (links : List (Link M)) (c : ℕ)
    (l : Link M) → slice_get links c ≡ Some l → ((d : ℕ) → concern_by e (conn d)
    ≡ concern_if_named (conn c) (conn d) k) →
    is_handed (opens s l.opener) k
    (standing_of (tie_of own c) (tie_of other c) (view_of (opens s l.opener) l)) ≡ true → Hands s own other e links
hands_at {M} s own other e k links c l at names handed =
    let F : LinkConcern → ℕ → Link M →
    Type 0 = λ x d y. is_handed (opens s y.opener) x
    (standing_of (tie_of own d) (tie_of other d) (view_of (opens s y.opener) y)) ≡ true in
    record {
      handed = λ d y there. elim (cases_eq d c) [
        | inl same ↦
            let is = same_link links c l y at (subst (λ n. slice_get links n ≡ Some y) same there) in
            let here : concern_by e (conn d) ≡ k = names d
            ∙ (ap (λ n. concern_if_named (conn c) (conn n) k) same ∙ named_here c k) in
            subst (λ x. F x d y) (sym here) (subst (λ n. F k n y) (sym same) (subst (λ x. F k c x) is handed))
        | inr other_link ↦ subst (λ x. F x d y) (sym (names d ∙ named_other c d k other_link)) refl
      ];
    }

pub one_sound : {P M : Type 0} (m : Peers P M) → MachineLaws → IsMachine m →
    (s : Side) (e : Event M) (k : LinkConcern) (w : World P M) (c : ℕ) (l : Link M) → IsSoundWorld m w →
    slice_get w.links c ≡ Some l →
    ((d : ℕ) → concern_by e (conn d) ≡ concern_if_named (conn c) (conn d) k) → (IsStart e → ⊥) →
    is_handed (opens s l.opener) k
    (standing_of (tie_of (m.node_of (peer_on s w)) c) (tie_of (m.node_of (peer_on (flip s) w)) c)
    (view_of (opens s l.opener) l)) ≡ true →
    IsSoundWorld m (world_after w (tell m s e w))
one_sound m laws is s e k w c l good at names no_start handed =
    let lt = slice_get_within w.links c l at in
    answered_sound m laws is s e w (m.reply (peer_on s w) e) refl good
    (hands_at s (m.node_of (peer_on s w)) (m.node_of (peer_on (flip s) w)) e k w.links c l at names handed)
    no_start (λ d h. names d ∙ named_other c d k (λ (q : d ≡ c). absurd (omega (arith, lt, h, q))))

-- one link alone is changed
pub change_sound : {P M : Type 0} (m : Peers P M) (w : World P M) (c : ℕ) (f : Link M → Link M) → IsSoundWorld m w →
    ((l : Link M) → slice_get w.links c ≡ Some l → IsSoundLink A (m.node_of w.a) (m.node_of w.b) c (f l)) →
    IsSoundWorld m (with_links (change_at c f w.links) w)
change_sound {P} {M} m w c f good h =
    let len = length-change_at c f w.links in
    let S : ℕ → Link M → Type 0 = λ n l. IsSoundLink A (m.node_of w.a) (m.node_of w.b) n l in
    record {
      own_shaped = good.own_shaped;
      other_shaped = good.other_shaped;
      each = λ d l at. elim (cases_eq d c) [
        | inl same ↦
            let test : (c == d) ≡ true = grind (arith, nat_tests) in
            let old = mapped_some f (slice_get w.links d) l (sym (change_at-tested c d true f w.links test) ∙ at) in
            let new = h old.0 (subst (λ n. slice_get w.links n ≡ Some old.0) same old.1) in
            subst (λ x. S d x) (sym old.2) (subst (λ n. S n (f old.0)) (sym same) new)
        | inr apart ↦
            let test : (c == d) ≡ false = grind (arith, nat_tests) in
            let old = mapped_some (λ x. x) (slice_get w.links d) l
            (sym (change_at-tested c d false f w.links test) ∙ at) in
            subst (λ x. S d x) (sym old.2) (good.each d old.0 old.1)
      ];
      own_later = λ d h. let h' : length w.links ≤ d = omega (arith, len, h) in good.own_later d h';
      other_later = λ d h. let h' : length w.links ≤ d = omega (arith, len, h) in good.other_later d h';
    }

to_a : {P M : Type 0} (m : Peers P M) (s : Side) (w : World P M) (c : ℕ) (l : Link M) →
    IsSoundLink s (m.node_of (peer_on s w)) (m.node_of (peer_on (flip s) w)) c l →
    IsSoundLink A (m.node_of w.a) (m.node_of w.b) c l
to_a m A w c l h = h
to_a m B w c l h = flip_link B l.opener (tie_of (m.node_of w.b) c) (tie_of (m.node_of w.a) c) l h

pub side_changed : {P M : Type 0} (m : Peers P M) (s : Side) (w : World P M) (c : ℕ) (f : View M → View M) →
    IsSoundWorld m w →
    ((l : Link M) → slice_get w.links c ≡ Some l →
    IsSoundView (opens s l.opener) (tie_of (m.node_of (peer_on s w)) c)
    (tie_of (m.node_of (peer_on (flip s) w)) c) (f (view_of (opens s l.opener) l))) →
    IsSoundWorld m (with_links (change_at c (by_side s f) w.links) w)
side_changed m s w c f good h =
    change_sound m w c (by_side s f) good (λ l at.
    let mine = opens s l.opener in
    let t = tie_of (m.node_of (peer_on s w)) c in
    let u = tie_of (m.node_of (peer_on (flip s) w)) c in
    to_a m s w c (by_side s f l)
    (subst (λ x. IsSoundView mine t u x) (sym (view_link mine l.opener (f (view_of mine l)))) (h l at)))
