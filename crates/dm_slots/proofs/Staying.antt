-- What isn't closed or shut stays.
use Rattle.std.proofs.Common.{◌≡◌, ℕ, Bool, true, false, cond, nat_eq, None, List, refl, ap}
use Rattle.std.proofs.lemmas.Bool.{eqb-true}
use Rattle.dm_peer.specs.declared.actions.Action.{Action}
use Rattle.dm_slots.specs.Intakes.{Intakes, actions_close, left_by, taken_down}

pub left_unclosed : (actions : List Action) (c : ℕ) (f : Intakes) → actions_close actions c ≡ false → left_by actions f c ≡ f c
left_unclosed actions c f e = ap (λ b. cond b None (f c)) e

pub left_unshut : (d c : ℕ) (f : Intakes) → (d ≡ c → ⊥) → taken_down d f c ≡ f c
left_unshut d c f un = by (nat_eq d c) refl
  where
    by : (b : Bool) → nat_eq d c ≡ b → cond b None (f c) ≡ f c
    by true e = absurd (un (eqb-true d c e))
    by false e = refl
