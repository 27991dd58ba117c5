-- Whether something is found.
use Rattle.std.proofs.Common.{◌≡◌, ℕ, ◌+◌, Bool, true, false, ◌||◌, cond, List, [], ◌∷◌, find, Option, None, Some, is_some, Bor, refl, ap, ◌∙◌}
use Rattle.std.specs.List.{list_any, position_from}
use Rattle.std.specs.Option.{option_copied}

pub is_some-find : {D : Type 0} (p : D → Bool) (ds : List D) → is_some (find p ds) ≡ list_any p ds
is_some-find p [] = refl
is_some-find p (d ∷ ds) = by (p d) (is_some-find p ds)
  where
    by : (b : Bool) → is_some (find p ds) ≡ list_any p ds → is_some (cond b (Some d) (find p ds)) ≡ (b || list_any p ds)
    by true rest = refl
    by false rest = rest

pub has_place : {D : Type 0} (p : D → Bool) (n : ℕ) (ds : List D) → is_some (position_from p n ds) ≡ list_any p ds
has_place p n [] = refl
has_place p n (d ∷ ds) = by (p d) (has_place p (n + 1) ds)
  where
    by : (b : Bool) → is_some (position_from p (n + 1) ds) ≡ list_any p ds
        → is_some (cond b (Some n) (position_from p (n + 1) ds)) ≡ (b || list_any p ds)
    by true rest = refl
    by false rest = rest

is_some-copied : {D : Type 0} (o : Option (Bor D)) → is_some o ≡ is_some (option_copied o)
is_some-copied None = refl
is_some-copied (Some x) = refl

pub is_found : {D : Type 0} (p : D → Bool) (ds : List D) (o : Option (Bor D)) → option_copied o ≡ find p ds
    → is_some o ≡ list_any p ds
is_found p ds o e = is_some-copied o ∙ ap is_some e ∙ is_some-find p ds
