-- One element of a list is changed; views of a link.
use Rattle.std.proofs.Common.{◌≡◌, ℕ, zero, suc, ◌==◌, Bool, true, false, if◌then◌else◌, Option, Some, None, List, []}
use Rattle.std.proofs.Common.{◌∷◌, length, slice_get, refl, ap, subst, ◌∙◌, arith}
use Rattle.std.specs.Prelude.{option_map}
use Rattle.std.specs.List.{list_all}
use Rattle.std.proofs.lemmas.Bool.{and_from}
use Rattle.std.proofs.lemmas.Bool.Decides.{nat_tests}
use Rattle.dm_two_peers.specs.Links.{Side, opens, Link, View, view_of, link_of, by_side}
use Rattle.dm_two_peers.specs.Worlds.{change_at}

-- one element is changed
change_at-same : {X : Type 0} (c : ℕ) (f : X → X) (xs : List X) →
    slice_get (change_at c f xs) c ≡ option_map f (slice_get xs c)
change_at-same c f [] = refl
change_at-same zero f (x ∷ xs) = refl
change_at-same (suc c) f (x ∷ xs) = change_at-same c f xs

change_at-other : {X : Type 0} (c d : ℕ) (f : X → X) (xs : List X) → (c ≡ d → ⊥) →
    slice_get (change_at c f xs) d ≡ slice_get xs d
change_at-other c d f [] h = refl
change_at-other zero zero f (x ∷ xs) h = absurd (h refl)
change_at-other zero (suc d) f (x ∷ xs) h = refl
change_at-other (suc c) zero f (x ∷ xs) h = refl
change_at-other (suc c) (suc d) f (x ∷ xs) h = change_at-other c d f xs (λ e. h (ap suc e))

pub length-change_at : {X : Type 0} (c : ℕ) (f : X → X) (xs : List X) → length (change_at c f xs) ≡ length xs
length-change_at c f [] = refl
length-change_at zero f (x ∷ xs) = refl
length-change_at (suc c) f (x ∷ xs) = ap suc (length-change_at c f xs)

pub if_same : (c d : ℕ) → (c == d) ≡ true → c ≡ d
if_same c d h = grind (arith, nat_tests)

if_other : (c d : ℕ) → (c == d) ≡ false → c ≡ d → ⊥
if_other c d h e = grind (arith, nat_tests)

mapped_same : {X : Type 0} (o : Option X) → o ≡ option_map (λ x. x) o
mapped_same None = refl
mapped_same (Some x) = refl

mapped_twice : {X Y Z : Type 0} (f : Y → Z) (g : X → Y) (o : Option X) →
    option_map f (option_map g o) ≡ option_map (λ x. f (g x)) o
mapped_twice f g None = refl
mapped_twice f g (Some x) = refl

pub mapped_some : {X : Type 0} (f : X → X) (o : Option X) (y : X) → option_map f o ≡ Some y →
    (x : X) × (o ≡ Some x) × (y ≡ f x)
mapped_some f None y h = cc
mapped_some f (Some x) y h = (x, refl, cc)

pub change_at-tested : {X : Type 0} (c d : ℕ) (b : Bool) (f : X → X) (xs : List X) → (c == d) ≡ b →
    slice_get (change_at c f xs) d ≡ option_map (λ x. if b then f x else x) (slice_get xs d)
change_at-tested c d true f xs e =
    let same = if_same c d e in
    subst (λ n. slice_get (change_at c f xs) n ≡ option_map f (slice_get xs n)) same (change_at-same c f xs)
change_at-tested c d false f xs e = change_at-other c d f xs (if_other c d e) ∙ mapped_same (slice_get xs d)

-- a test that each element passes
pub all_where : {X : Type 0} (f : X → Bool) (xs : List X) →
    ((d : ℕ) (x : X) → slice_get xs d ≡ Some x → f x ≡ true) → list_all f xs ≡ true
all_where f [] h = refl
all_where f (x ∷ xs) h = and_from (f x) (list_all f xs) (h 0 x refl) (all_where f xs (λ d z e. h (suc d) z e))

pub same_test : {X : Type 0} (f : X → Bool) (x y : X) → Some x ≡ Some y → f x ≡ true → f y ≡ true
same_test f x y e h = let same : x ≡ y = cc e in subst (λ z. f z ≡ true) same h

-- views of a link
pub view_link : {M : Type 0} (mine : Bool) (s : Side) (v : View M) → view_of mine (link_of mine s v) ≡ v
view_link true s v = refl
view_link false s v = refl

link_view : {M : Type 0} (mine : Bool) (l : Link M) → link_of mine l.opener (view_of mine l) ≡ l
link_view true l = refl
link_view false l = refl

pub by_side-twice : {M : Type 0} (s : Side) (f g : View M → View M) (l : Link M) →
    by_side s f (by_side s g l) ≡ by_side s (λ v. f (g v)) l
by_side-twice s f g l =
    ap (λ v. link_of (opens s l.opener) l.opener (f v))
    (view_link (opens s l.opener) l.opener (g (view_of (opens s l.opener) l)))

pub by_side-same : {M : Type 0} (s : Side) (l : Link M) → by_side s (λ v. v) l ≡ l
by_side-same s l = link_view (opens s l.opener) l
