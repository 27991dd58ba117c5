-- What the checks of every standing say of one.
use Rattle.std.proofs.Common.{◌≡◌, ◌⊎◌, inl, inr, ℕ, Bool, true, false, ◌&&◌, refl, sym}
use Rattle.std.proofs.Common.{subst}
use Rattle.std.proofs.lemmas.Bool.{and_parts, and_from}
use Rattle.dm_two_peers.specs.Machine.{LinkConcern, Elsewhere, Tie, Unheld}
use Rattle.dm_two_peers.specs.Facts.{Standing, turned_over, is_sound_standing, is_up}
use Rattle.dm_two_peers.proofs.Every.{all_true, at, nth, every_bool, every_concern}
use Rattle.dm_two_peers.proofs.Every.{at_bool, at_tie, at_concern, at_standing}
use Rattle.dm_two_peers.proofs.StandingSteps.{is_when, is_allowed, is_ready, is_handed, after_pop, after_put}
use Rattle.dm_two_peers.proofs.StandingSteps.{standing_after, puts_in, step_to, step_by, steps, steps_checked}
use Rattle.dm_two_peers.proofs.StandingOthers.{spent_at, spent, spent_checked, standing_lost, lost, lost_checked}
use Rattle.dm_two_peers.proofs.StandingOthers.{closes_own, restart_is_sound, restarts_checked, conclusions, concluded}
use Rattle.dm_two_peers.proofs.StandingOthers.{concluded_checked}

-- reading the checks
sound_turned : (mine : Bool) (s : Standing) → turned_over mine (turned_over mine s) ≡ s
sound_turned true s = refl
sound_turned false s = refl

pub record IsStepOf (mine : Bool) (k : LinkConcern) (s : Standing) : Type 0 where
  pub ready : is_ready k s.own_tie ≡ true
  pub after : (t : Tie) (closed sent : Bool) → is_allowed k s.own_tie t closed sent ≡ true →
      after_pop k s.in_empty
      (λ ie. after_put (puts_in k sent s) closed s.out_empty
      (λ oe. is_sound_standing (turned_over mine (standing_after k t closed ie oe s)))) ≡ true

step_of : (mine : Bool) (k : LinkConcern) (s : Standing) → step_by mine k s ≡ true → is_handed mine k s ≡ true →
    IsStepOf mine k s
step_of mine k s h handed =
    let here = is_when (is_handed mine k s) _ h handed in
    let both = and_parts (is_ready k s.own_tie) _ here in
    record {
      ready = both.0;
      after = λ t closed sent ok. is_when (is_allowed k s.own_tie t closed sent) _
          (at_bool (λ sent. step_to mine k s t closed sent)
          (at_bool (λ closed. every_bool (λ sent. step_to mine k s t closed sent))
          (at_tie (λ t. every_bool (λ closed. every_bool (λ sent. step_to mine k s t closed sent))) both.1 t)
          closed) sent) ok;
    }

pub step_at : (mine : Bool) (k : LinkConcern) (s : Standing) → is_sound_standing (turned_over mine s) ≡ true →
    is_handed mine k s ≡ true → IsStepOf mine k s
step_at true k s good handed =
    step_of true k s (at_concern (λ k. step_by true k s)
    (at_bool (λ mine. every_concern (λ k. step_by mine k (turned_over mine s)))
    (is_when (is_sound_standing s) _ (at_standing steps steps_checked s) good) true) k) handed
step_at false k s good handed =
    step_of false k s (at_concern (λ k. step_by false k s)
    (at_bool (λ mine. every_concern (λ k. step_by mine k (turned_over mine (turned_over false s))))
    (is_when (is_sound_standing (turned_over false s)) _ (at_standing steps steps_checked (turned_over false s)) good)
    false) k)
    handed

pub spent_of : (mine : Bool) (k : LinkConcern) (s : Standing) → is_sound_standing (turned_over mine s) ≡ true →
    spent_at mine k s ≡ true
spent_of true k s good =
    at_concern (λ k. spent_at true k s)
    (at_bool (λ mine. every_concern (λ k. spent_at mine k (turned_over mine s)))
    (is_when (is_sound_standing s) _ (at_standing spent spent_checked s) good) true) k
spent_of false k s good =
    at_concern (λ k. spent_at false k s)
    (at_bool (λ mine. every_concern (λ k. spent_at mine k (turned_over mine (turned_over false s))))
    (is_when (is_sound_standing (turned_over false s)) _ (at_standing spent spent_checked (turned_over false s)) good)
    false) k

pub restart_of : (mine : Bool) (s : Standing) → is_sound_standing (turned_over mine s) ≡ true →
    is_sound_standing (turned_over mine
    (standing_after Elsewhere Unheld (closes_own mine s.phase) s.in_empty s.out_empty s)) ≡ true
restart_of true s good =
    at_bool (λ mine. is_sound_standing
    (turned_over mine (standing_after Elsewhere Unheld (closes_own mine s.phase) (turned_over mine s).in_empty
    (turned_over mine s).out_empty (turned_over mine s))))
    (is_when (is_sound_standing s) _ (at_standing restart_is_sound restarts_checked s) good) true
restart_of false s good =
    let t = turned_over false s in
    at_bool (λ mine. is_sound_standing
    (turned_over mine (standing_after Elsewhere Unheld (closes_own mine t.phase) (turned_over mine t).in_empty
    (turned_over mine t).out_empty (turned_over mine t))))
    (is_when (is_sound_standing t) _ (at_standing restart_is_sound restarts_checked t) good) false

pub lost_of : (s : Standing) (in_empty out_empty : Bool) → is_sound_standing s ≡ true → is_up s.phase ≡ true →
    (in_empty ≡ true) ⊎ (in_empty ≡ s.in_empty) → (out_empty ≡ true) ⊎ (out_empty ≡ s.out_empty) →
    is_sound_standing (standing_lost in_empty out_empty s) ≡ true
lost_of s ie oe good up i o =
    let all = is_when (is_sound_standing s && is_up s.phase) _ (at_standing lost lost_checked s)
    (and_from (is_sound_standing s) (is_up s.phase) good up) in
    let p = and_parts _ (is_sound_standing (standing_lost s.in_empty s.out_empty s)) all in
    let q = and_parts _ (is_sound_standing (standing_lost s.in_empty true s)) p.0 in
    let r = and_parts (is_sound_standing (standing_lost true true s))
    (is_sound_standing (standing_lost true s.out_empty s)) q.0 in
    let F : Bool → Bool → Type 0 = λ x y. is_sound_standing (standing_lost x y s) ≡ true in
    elim i [
      | inl e ↦ elim o [
        | inl d ↦ subst (λ x. F x oe) (sym e) (subst (λ y. F true y) (sym d) r.0)
        | inr d ↦ subst (λ x. F x oe) (sym e) (subst (λ y. F true y) (sym d) r.1)
      ]
      | inr e ↦ elim o [
        | inl d ↦ subst (λ x. F x oe) (sym e) (subst (λ y. F s.in_empty y) (sym d) q.1)
        | inr d ↦ subst (λ x. F x oe) (sym e) (subst (λ y. F s.in_empty y) (sym d) p.1)
      ]
    ]

pub conclusion : (k : ℕ) (mine : Bool) (s : Standing) → is_sound_standing (turned_over mine s) ≡ true →
    nth (conclusions mine s) k ≡ true
conclusion k true s good =
    at (conclusions true s) k
    (at_bool (λ mine. all_true (conclusions mine (turned_over mine s)))
    (is_when (is_sound_standing s) _ (at_standing concluded concluded_checked s) good) true)
conclusion k false s good =
    let t = turned_over false s in
    at (conclusions false s) k
    (at_bool (λ mine. all_true (conclusions mine (turned_over mine t)))
    (is_when (is_sound_standing t) _ (at_standing concluded concluded_checked t) good) false)
