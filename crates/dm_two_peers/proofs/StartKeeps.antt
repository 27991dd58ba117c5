-- A Start that a side's peer takes keeps the links sound.
use Rattle.std.proofs.Common.{◌≡◌, ℕ, zero, suc, ◌+◌, ◌≤◌, Bool, true, false, Some, List, [], ◌∷◌, ◌++◌, length}
use Rattle.std.proofs.Common.{map, slice_get, refl, sym, ap, subst, ◌∙◌, arith, ◌⊎◌, inl, inr}
use Rattle.std.proofs.Common.{length-append}
use Rattle.std.proofs.lemmas.Bool.Decides.{nat_tests}
use Rattle.std.proofs.lemmas.Option.{slice_get_within}
use Rattle.dm_two_peers.specs.Machine.{conn, Node, LinkConcern, Elsewhere, StartsLink, Tie}
use Rattle.dm_two_peers.specs.Machine.{Unheld, Connecting, Connected, ConnectedOpen, AcceptedTie, tie_of, is_tie_held}
use Rattle.dm_two_peers.specs.Links.{Side, A, B, opens}
use Rattle.dm_two_peers.specs.Links.{Link, view_of, link_of, by_side, new_link}
use Rattle.dm_two_peers.specs.Peers.{Event, StartEvent, Action, deed_in, closes_at, sends_at, concern_by}
use Rattle.dm_two_peers.specs.Worlds.{perform}
use Rattle.dm_two_peers.specs.Facts.{standing_of, IsSoundView, IsSoundLink}
use Rattle.dm_two_peers.specs.Facts.{AreSound}
use Rattle.dm_two_peers.proofs.Columns.{summed, acted, words_at}
use Rattle.dm_two_peers.proofs.Columns.{stepped}
use Rattle.dm_two_peers.proofs.StandingSteps.{is_ready, is_allowed, is_handed}
use Rattle.dm_two_peers.proofs.Ties.{KeepsTies}
use Rattle.dm_two_peers.proofs.Views.{acted_summed}
use Rattle.dm_two_peers.proofs.Lists.{mapped_some}
use Rattle.dm_two_peers.proofs.Stepped.{performed_at, length-perform}
use Rattle.dm_two_peers.proofs.Keeps.{link_keeps, unheld_later}

-- a Start makes the next link
start_connects : (t : Tie) (closed sent : Bool) → is_allowed StartsLink Unheld t closed sent ≡ true →
    (t ≡ Connecting) × (closed ≡ false) × (sent ≡ false)
start_connects Connecting false false h = (refl, refl, refl)
start_connects Connecting false true h = cc
start_connects Connecting true sent h = cc
start_connects Unheld true sent h = cc
start_connects Unheld false sent h = cc
start_connects Connected true sent h = cc
start_connects Connected false sent h = cc
start_connects ConnectedOpen true sent h = cc
start_connects ConnectedOpen false sent h = cc
start_connects AcceptedTie true sent h = cc
start_connects AcceptedTie false sent h = cc

new_sound : (M : Type 0) (s : Side) (own other : Tie) → own ≡ Connecting → other ≡ Unheld →
    IsSoundView {M = M} (opens s s) own other (view_of (opens s s) (new_link s))
new_sound M A own other p q = rw (p, q) refl
new_sound M B own other p q = rw (p, q) refl

new_acted : {M : Type 0} (s : Side) (closed : Bool) (words : List M) → closed ≡ false →
    by_side s (summed closed words) (new_link s) ≡ new_link s
new_acted A true words h = cc
new_acted A false words h = refl
new_acted B true words h = cc
new_acted B false words h = refl

pub start_at : (c d : ℕ) → (d ≡ c → ⊥) → concern_by {M = ℕ} (StartEvent (conn c)) (conn d) ≡ Elsewhere
start_at c d h = grind (arith, nat_tests)

start_here : (c : ℕ) → concern_by {M = ℕ} (StartEvent (conn c)) (conn c) ≡ StartsLink
start_here c = grind (arith, nat_tests)

pub appended_at : {X : Type 0} (xs : List X) (y : X) (c : ℕ) (x : X) → slice_get (xs ++ y ∷ []) c ≡ Some x →
    (slice_get xs c ≡ Some x) ⊎ ((c ≡ length xs) × (x ≡ y))
appended_at [] y zero x h = inr (refl, cc)
appended_at [] y (suc c) x h = cc
appended_at (z ∷ xs) y zero x h = inl h
appended_at (z ∷ xs) y (suc c) x h = elim (appended_at xs y c x h) [ inl e ↦ inl e | inr p ↦ inr (ap suc p.0, p.1) ]

pub start_keeps : {M : Type 0} (s : Side) (own own' other : Node) (actions : List (Action M))
    (links : List (Link M)) →
    AreSound s own other links → KeepsTies own (StartEvent (conn (length links))) actions own' →
    AreSound s own' other (perform s actions (links ++ new_link s ∷ []))
start_keeps {M} s own own' other actions links good ties =
    let c0 = length links in
    let e : Event M = StartEvent (conn c0) in
    let made = links ++ new_link s ∷ [] in
    let len : length (perform s actions made) ≡ c0 + 1 = omega
    (arith, length-perform s actions made, length-append links (new_link s ∷ [])) in
    let closed = closes_at c0 (map deed_in actions) in
    let sent = sends_at c0 (map deed_in actions) in
    let F : LinkConcern → Tie → Type 0 = λ x t. is_ready x t ≡ true →
    is_allowed x t (tie_of own' c0) closed sent ≡ true in
    let law : F StartsLink Unheld = subst (λ t. F StartsLink t) (good.own_later c0 (omega arith))
    (subst (λ x. F x (tie_of own c0)) (start_here c0) (ties.changes c0)) in
    let new = start_connects (tie_of own' c0) closed sent (law refl) in
    record {
      own_shaped = ties.shaped;
      other_shaped = good.other_shaped;
      each = λ c l at.
          let old = mapped_some (by_side s (acted c actions)) (slice_get made c) l
          (sym (performed_at s actions c made) ∙ at) in
          elim (appended_at links (new_link s) c old.0 old.1) [
            | inl there ↦
                let lt = slice_get_within links c old.0 there in
                let k : concern_by e (conn c) ≡ Elsewhere = start_at c0 c
                (λ (q : c ≡ c0). absurd (omega (arith, lt, q))) in
                let mine = opens s old.0.opener in
                let G : LinkConcern → Type 0 = λ x. IsSoundLink s own' other c
                (by_side s (stepped x (is_tie_held (tie_of own' c)) c actions) old.0) in
                let handed : is_handed mine (concern_by e (conn c))
                (standing_of (tie_of own c) (tie_of other c) (view_of mine old.0)) ≡ true = rw k refl in
                let kept = subst G k
                (link_keeps s own own' other e actions c old.0 (good.each c old.0 there) handed ties) in
                subst (λ x. IsSoundLink s own' other c x) (sym old.2) kept
            | inr q ↦
                let is : l ≡ new_link s =
                old.2 ∙ (ap (by_side s (acted c actions)) q.1
                ∙ (ap (λ n. by_side s (acted n actions) (new_link s)) q.0
                ∙ (ap (λ v. link_of (opens s s) s v) (acted_summed c0 actions (view_of (opens s s) (new_link s)))
                ∙ new_acted s closed (words_at c0 actions) new.1))) in
                let here = new_sound M s (tie_of own' c0) (tie_of other c0) new.0
                (good.other_later c0 (omega arith)) in
                subst (λ x. IsSoundLink s own' other c x) (sym is)
                (subst (λ n. IsSoundLink {M = M} s own' other n (new_link s)) (sym q.0) here)
          ];
      own_later = λ c h.
          let h' : c0 + 1 ≤ c = omega (arith, len, h) in
          unheld_later own own' e actions c ties (good.own_later c (omega (arith, h')))
          (start_at c0 c (λ (q : c ≡ c0). absurd (omega (arith, h', q))));
      other_later = λ c h. let h' : c0 ≤ c = omega (arith, len, h) in good.other_later c h';
    }
