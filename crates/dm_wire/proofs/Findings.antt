-- The first of the AVPs that pass a test.
use Rattle.std.proofs.Common.{◌≡◌, Bool, true, false, cond, List, [], ◌∷◌, filter, find, Option, Some, None, refl, sym, ap, ◌∙◌}
use Rattle.std.specs.List.{slice_get}
use Rattle.dm_wire.specs.declared.avp.Avp.{Avp}
use Rattle.dm_wire.specs.Finding.{GivesNext}

find_head : (p : Avp → Bool) (l : List Avp) → find p l ≡ slice_get (filter p l) 0
find_head p [] = refl
find_head p (y ∷ l) = by (p y) (find_head p l) where
  by : (b : Bool) → find p l ≡ slice_get (filter p l) 0
      → cond b (Some y) (find p l) ≡ slice_get (cond b (y ∷ filter p l) (filter p l)) 0
  by true h = refl
  by false h = h

-- what is given is the first that passes
pub first_given : (p : Avp → Bool) (l w v : List Avp) (o : Option Avp) → w ≡ filter p l → GivesNext w o v → o ≡ find p l
first_given p l w v None e h = sym (find_head p l ∙ ap (λ k. slice_get k 0) (sym e ∙ h.0))
first_given p l w v (Some x) e h = sym (find_head p l ∙ ap (λ k. slice_get k 0) (sym e ∙ h))
