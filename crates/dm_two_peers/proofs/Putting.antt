-- What the phases of a clean run have put in is the beginning of the run's course.
use Rattle.std.proofs.Common.{◌≡◌, ℕ, Bool, true, false, nat_le, if◌then◌else◌, Option, Some, None, List, [], ◌∷◌, ◌++◌}
use Rattle.std.proofs.Common.{length, ◌≤◌, refl, sym, ap, subst, ◌∙◌}
use Rattle.std.proofs.lemmas.Bool.{leb-true}
use Rattle.dm_two_peers.specs.Links.{Side, A, B, flip, opens}
use Rattle.dm_two_peers.specs.Peers.{Peers}
use Rattle.dm_two_peers.specs.Worlds.{Put, Disconnect}
use Rattle.dm_two_peers.specs.Quiet.{KeptLink, kept_of}
use Rattle.dm_two_peers.specs.Electing.{Talks}
use Rattle.dm_two_peers.specs.Courses.{cers_on, after_cers, course}
use Rattle.dm_two_peers.proofs.Pairs.{IsPair, ab, ba}
use Rattle.dm_two_peers.proofs.Stages.{Stage, Unmade}
use Rattle.dm_two_peers.proofs.Acting.{cer_put, cea_put}
use Rattle.dm_two_peers.proofs.Phases.{Phase, C1, C2, C3, C4, C5, C10, C11, C12, C13, C14, C15, C16, C17, C18, C19, C25}
use Rattle.dm_two_peers.proofs.Phases.{stage_g, stage_l, present, put_so_far}

-- of two sides, by the greater one
abbrev pub by_greater : {X : Type 0} → Side → X → X → Side → X
by_greater g a b s = if opens g s then a else b

pub by_each : {X : Type 0} (g l : Side) → IsPair g l → (f : Side → X) (a b : X) → f g ≡ a → f l ≡ b → (s : Side) →
    f s ≡ by_greater g a b s
by_each g l ab f a b e e' A = e
by_each g l ab f a b e e' B = e'
by_each g l ba f a b e e' A = e'
by_each g l ba f a b e e' B = e

one_present : (st : Stage) (x : ℕ) → nat_le (length (present st x)) 1 ≡ true
one_present Unmade x = refl
one_present _ x = refl

few_made : (ns : List ℕ) (st : Stage) (x : ℕ) → ns ≡ present st x → length ns ≤ 1
few_made ns st x e = subst (λ zs. length zs ≤ 1) (sym e) (leb-true (length (present st x)) 1 (one_present st x))

-- each side makes one link at most
pub one_at_most : (g l : Side) → IsPair g l → (made : Side → List ℕ) (k : Phase) (x y : ℕ) →
    ((s : Side) → made s ≡ by_greater g (present (stage_g k) x) (present (stage_l k) y) s) → (s : Side) →
    length (made s) ≤ 1
one_at_most g l ab made k x y e A = few_made (made A) (stage_g k) x (e A)
one_at_most g l ab made k x y e B = few_made (made B) (stage_l k) y (e B)
one_at_most g l ba made k x y e A = few_made (made A) (stage_l k) y (e A)
one_at_most g l ba made k x y e B = few_made (made B) (stage_g k) x (e B)

-- whether the greater side's CER comes first
abbrev pub is_led : Phase → Bool → Bool
is_led C11 b = true
is_led C12 b = false
is_led C13 b = true
is_led C14 b = false
is_led _ b = b

module _ {P M C H : Type 0} (m : Peers P M) (t : Talks P M C H) where
  -- what is still to come
  abbrev pub still_to_come : Side → Side → Phase → Bool → ℕ → ℕ → ℕ → ℕ → List (Put M)
  still_to_come g l C2 b x y h h' = cer_put m t g l x h ∷ cea_put m t g l x h ∷ []
  still_to_come g l C3 b x y h h' = cer_put m t l g y h' ∷ cea_put m t l g y h' ∷ []
  still_to_come g l C4 b x y h h' = cea_put m t g l x h ∷ []
  still_to_come g l C5 b x y h h' = cea_put m t l g y h' ∷ []
  still_to_come g l C10 b x y h h' = put_so_far m t g l C25 b x y h h'
  still_to_come g l C11 b x y h h' =
      cer_put m t l g y h' ∷ Disconnect x l ∷ cea_put m t l g y h' ∷ Disconnect x g ∷ []
  still_to_come g l C12 b x y h h' =
      cer_put m t g l x h ∷ Disconnect x l ∷ cea_put m t l g y h' ∷ Disconnect x g ∷ []
  still_to_come g l C13 b x y h h' =
      cer_put m t l g y h' ∷ Disconnect x l ∷ cea_put m t l g y h' ∷ Disconnect x g ∷ []
  still_to_come g l C14 b x y h h' =
      cer_put m t g l x h ∷ Disconnect x l ∷ cea_put m t l g y h' ∷ Disconnect x g ∷ []
  still_to_come g l C15 b x y h h' = Disconnect x l ∷ cea_put m t l g y h' ∷ Disconnect x g ∷ []
  still_to_come g l C16 b x y h h' = Disconnect x l ∷ cea_put m t l g y h' ∷ Disconnect x g ∷ []
  still_to_come g l C17 b x y h h' = Disconnect x g ∷ []
  still_to_come g l C18 b x y h h' = Disconnect x g ∷ []
  still_to_come g l C19 b x y h h' = Disconnect x g ∷ []
  still_to_come g l _ b x y h h' = []

  abbrev pub CourseIn : (g l : Side) (k : Phase) (b : Bool) (x y h h' : ℕ) → List (Put M)
  CourseIn g l k b x y h h' =
      course t (by_greater g h h') (if is_led k b then g else l)
      (by_greater g (present (stage_g k) x) (present (stage_l k) y))
      (kept_of l (present (stage_l k) y) (kept_of g (present (stage_g k) x) None))

  pub on_course : (g l : Side) → IsPair g l → (b : Bool) (k : Phase) (x y h h' : ℕ) →
      put_so_far m t g l k b x y h h' ++ still_to_come g l k b x y h h' ≡ CourseIn g l k b x y h h'
  on_course g l ab true C1 x y h h' = refl
  on_course g l ab true _ x y h h' = refl
  on_course g l ab false C1 x y h h' = refl
  on_course g l ab false _ x y h h' = refl
  on_course g l ba true C1 x y h h' = refl
  on_course g l ba true _ x y h h' = refl
  on_course g l ba false C1 x y h h' = refl
  on_course g l ba false _ x y h h' = refl

  -- a course by other links that are the same
  decided_by : (numbers : Side → ℕ) (links links' : Side → List ℕ) → ((s : Side) → links s ≡ links' s) →
      (k : Option KeptLink) → after_cers t numbers links k ≡ after_cers t numbers links' k
  decided_by numbers links links' e None = refl
  decided_by numbers links links' e (Some k) = rw (e (flip k.opener)) refl

  pub course_by : (numbers : Side → ℕ) (first : Side) (links links' : Side → List ℕ) (k k' : Option KeptLink) →
      ((s : Side) → links s ≡ links' s) → k ≡ k' →
      course t numbers first links k ≡ course t numbers first links' k'
  course_by numbers first links links' k k' e same =
      ap (λ (ns : List ℕ). cers_on t numbers first ns ++ cers_on t numbers (flip first) (links (flip first))
      ++ after_cers t numbers links k) (e first)
      ∙ (ap (λ (ns : List ℕ). cers_on t numbers first (links' first) ++ cers_on t numbers (flip first) ns
      ++ after_cers t numbers links k) (e (flip first))
      ∙ (ap (λ (ps : List (Put M)). cers_on t numbers first (links' first)
      ++ cers_on t numbers (flip first) (links' (flip first)) ++ ps) (decided_by numbers links links' e k)
      ∙ ap (λ (o : Option KeptLink). course t numbers first links' o) same))
