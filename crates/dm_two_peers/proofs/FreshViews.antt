-- Whether an end of a view is fresh, after a step and after an entry.
use Rattle.std.proofs.Common.{◌≡◌, ℕ, Bool, true, false, not, ◌&&◌, ◌||◌}
use Rattle.std.proofs.Common.{Option, Some, None, List, refl, sym, ap, ◌∙◌}
use Rattle.std.proofs.Common.{◌⊎◌, inl, inr}
use Rattle.std.specs.Prelude.{option_map}
use Rattle.dm_two_peers.specs.Machine.{LinkConcern, MakesLink}
use Rattle.dm_two_peers.specs.Links.{Side, A, B, opens, LinkPhase, End}
use Rattle.dm_two_peers.specs.Links.{Link, View, view_of, link_of, by_side}
use Rattle.dm_two_peers.specs.Peers.{Action}
use Rattle.dm_two_peers.specs.Steps.{entered, own_settled, settled_view}
use Rattle.dm_two_peers.specs.Happens.{own_view}
use Rattle.dm_two_peers.specs.Facts.{is_up, is_fresh}
use Rattle.dm_two_peers.specs.Making.{has_fresh_end, is_fresh_on}
use Rattle.dm_two_peers.proofs.Columns.{entered_by_columns, phase_at, own_at, other_at, phase_after, own_after}
use Rattle.dm_two_peers.proofs.Columns.{is_closed_at, stepped}
use Rattle.dm_two_peers.proofs.Every.{every_bool, every_concern, every_phase, every_end, at_bool, at_concern, at_phase}
use Rattle.dm_two_peers.proofs.Every.{at_end, all_true}
use Rattle.dm_two_peers.proofs.StandingSteps.{when, is_when}
use Rattle.dm_two_peers.proofs.Views.{acted_entered}

-- whether an end of a view is fresh, the own one or the other
abbrev own_or : {X : Type 0} → Bool → X → X → X
own_or true x y = x
own_or false x y = y

abbrev pub fresh_of : Bool → LinkPhase → End → End → Bool
fresh_of b p own other = is_up p && is_fresh (own_or b own other)

abbrev pub fresh_in : {M : Type 0} → Bool → View M → Bool
fresh_in b v = fresh_of b v.phase v.own v.other

abbrev pub is_ack : LinkConcern → Bool
is_ack MakesLink = true
is_ack _ = false

-- a step and an entry, at every view
abbrev fresh_stepped : Bool → LinkConcern → Bool → Bool → LinkPhase → End → End → Bool
fresh_stepped b k holds closed p own other =
    fresh_of b (phase_after closed (phase_at k p))
    (own_settled k holds (own_after closed (phase_at k p) (own_at k own))) (other_at k other)

abbrev fresh_entered : Bool → LinkConcern → LinkPhase → End → End → Bool
fresh_entered b k p own other = fresh_of b (phase_at k p) (own_at k own) (other_at k other)

abbrev was_or_made_at : Bool → LinkConcern → LinkPhase → End → End → Bool
was_or_made_at b k p own other = fresh_of b p own other || (is_ack k && not b)

abbrev step_at : Bool → LinkConcern → Bool → Bool → LinkPhase → End → End → Bool
step_at b k holds closed p own other =
    when (fresh_stepped b k holds closed p own other) (was_or_made_at b k p own other)

abbrev entry_at : Bool → LinkConcern → LinkPhase → End → End → Bool
entry_at b k p own other = when (fresh_entered b k p own other) (was_or_made_at b k p own other)

steps_checked : every_bool
    (λ b. every_concern (λ k. every_bool
    (λ holds. every_bool (λ closed. every_phase
    (λ p. every_end (λ own. every_end (λ other. step_at b k holds closed p own other))))))) ≡ true
unfolding all_true every_bool every_concern every_phase every_end
steps_checked = refl

entries_checked : every_bool
    (λ b. every_concern (λ k. every_phase (λ p. every_end (λ own. every_end (λ other. entry_at b k p own other)))))
    ≡ true
unfolding all_true every_bool every_concern every_phase every_end
entries_checked = refl

pub step_makes : {M : Type 0} (b : Bool) (k : LinkConcern) (holds : Bool) (d : ℕ) (actions : List (Action M)) (v : View M) →
    fresh_in b (stepped k holds d actions v) ≡ true → (fresh_in b v || (is_ack k && not b)) ≡ true
step_makes b k holds d actions v h =
    let closed = is_closed_at d actions in
    is_when (fresh_stepped b k holds closed v.phase v.own v.other) (was_or_made_at b k v.phase v.own v.other)
    (at_end _ (at_end _ (at_phase _ (at_bool _
    (at_bool _ (at_concern _ (at_bool _ steps_checked b) k) holds) closed) v.phase) v.own) v.other)
    (sym (ap (λ x. fresh_in b (settled_view k holds x)) (acted_entered d actions k v)) ∙ h)

pub entry_makes : {M : Type 0} (b : Bool) (k : LinkConcern) (v : View M) →
    fresh_in b (entered k v) ≡ true → (fresh_in b v || (is_ack k && not b)) ≡ true
entry_makes b k v h =
    is_when (fresh_entered b k v.phase v.own v.other) (was_or_made_at b k v.phase v.own v.other)
    (at_end _ (at_end _ (at_phase _ (at_concern _ (at_bool _ entries_checked b) k) v.phase) v.own) v.other)
    (sym (ap (λ x. fresh_in b x) (entered_by_columns k v)) ∙ h)

-- an end of a side, seen from a side
side_own : {M : Type 0} (s t o : Side) (v : View M) →
    (view_of (opens s o) (link_of (opens t o) o v)).own ≡ own_or (opens s t) v.own v.other
side_own A A A v = refl
side_own A A B v = refl
side_own A B A v = refl
side_own A B B v = refl
side_own B A A v = refl
side_own B A B v = refl
side_own B B A v = refl
side_own B B B v = refl

side_view : {M : Type 0} (s t o : Side) (l : Link M) →
    (view_of (opens s o) l).own ≡ own_or (opens s t) (view_of (opens t o) l).own (view_of (opens t o) l).other
side_view A A A l = refl
side_view A A B l = refl
side_view A B A l = refl
side_view A B B l = refl
side_view B A A l = refl
side_view B A B l = refl
side_view B B A l = refl
side_view B B B l = refl

pub fresh_by : {M : Type 0} (s t : Side) (f : View M → View M) (l : Link M) →
    has_fresh_end s (by_side t f l) ≡ fresh_in (opens s t) (f (own_view t l))
fresh_by s t f l =
    ap (λ e. is_up (f (own_view t l)).phase && is_fresh e) (side_own s t l.opener (f (own_view t l)))

pub fresh_seen : {M : Type 0} (s t : Side) (l : Link M) → has_fresh_end s l ≡ fresh_in (opens s t) (own_view t l)
fresh_seen s t l = ap (λ e. is_up l.phase && is_fresh e) (side_view s t l.opener l)

-- an end was fresh, or is made by an Ack of the other side's
abbrev pub WasOrMade : Bool → Bool → Bool → Type 0
WasOrMade was acks mine = (was ≡ true) ⊎ ((acks ≡ true) × (mine ≡ false))

either : (was acks mine : Bool) → (was || (acks && not mine)) ≡ true → WasOrMade was acks mine
either true acks mine h = inl refl
either false true false h = inr (refl, refl)
either false true true h = cc
either false false mine h = cc

pub link_makes : {M : Type 0} (s t : Side) (k : LinkConcern) (f : View M → View M) (l : Link M) →
    (fresh_in (opens s t) (f (own_view t l)) ≡ true →
    (fresh_in (opens s t) (own_view t l) || (is_ack k && not (opens s t))) ≡ true) →
    has_fresh_end s (by_side t f l) ≡ true → WasOrMade (has_fresh_end s l) (is_ack k) (opens s t)
link_makes s t k f l makes h =
    either (has_fresh_end s l) (is_ack k) (opens s t)
    (ap (λ x. x || (is_ack k && not (opens s t))) (fresh_seen s t l) ∙ makes (sym (fresh_by s t f l) ∙ h))

pub mapped_makes : {M : Type 0} {Z : Type 0} (s : Side) (f : Link M → Link M) (o : Option (Link M)) →
    ((l : Link M) → has_fresh_end s (f l) ≡ true → (has_fresh_end s l ≡ true) ⊎ Z) →
    is_fresh_on s (option_map f o) ≡ true → (is_fresh_on s o ≡ true) ⊎ Z
mapped_makes s f None g h = inl h
mapped_makes s f (Some l) g h = g l h
