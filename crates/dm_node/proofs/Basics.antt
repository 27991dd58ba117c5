-- What options, results and truth values are by what they hold.
use Rattle.std.proofs.Common.{◌≡◌, Bool, true, false, true≢false, Option, None, Some, unwrap_or, is_some, option_map, Result, Ok, Err, refl, sym, ap, ◌∙◌}

pub one_some : {A : Type 0} (x y : A) → Some x ≡ Some y → x ≡ y
one_some x y e = ap (λ o. unwrap_or o x) e

pub no_some : {A P : Type 0} (x : A) → None ≡ Some x → P
no_some x e = absurd (true≢false (sym (ap is_some e)))

pub one_inside : {A : Type 0} (o : Option A) (x y : A) → o ≡ Some x → o ≡ Some y → x ≡ y
one_inside o x y e d = ap (λ v. unwrap_or v x) (sym e ∙ d)

pub two_truths : (b : Bool) → b ≡ true → b ≡ false → ⊥
two_truths b is other = true≢false (sym is ∙ other)

pub not_done : {A E P : Type 0} (a : A) (f : E) (r : Result A E) → r ≡ Ok a → r ≡ Err f → P
not_done a f r is refused = let clash : Ok a ≡ Err f = sym is ∙ refused in absurd (cc)

pub same_fault : {A E : Type 0} (g f : E) (r : Result A E) → r ≡ Err g → r ≡ Err f → g ≡ f
same_fault {A} {E} g f r is refused = let same : ◌≡◌ {A = Result A E} (Err g) (Err f) = sym is ∙ refused in cc

pub there_mapped : {A : Type 0} (f : A → A) (x : Option A) → is_some (option_map f x) ≡ is_some x
there_mapped f None = refl
there_mapped f (Some x) = refl
