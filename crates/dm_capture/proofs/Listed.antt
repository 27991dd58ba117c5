-- Where options end, and which is the first.
use Rattle.std.proofs.Common.{◌≡◌, ◌≢◌, ◌≤◌, ◌<◌, ◌⊎◌, inl, inr, ℕ, ◌+◌, ◌-◌, ◌*◌, ◌/◌, Bool, true, false, nat_eq, if◌then◌else◌, None, Some, List, [], ◌∷◌, length, take, drop, refl, sym, ◌∙◌, ap, subst, arith}
use Rattle.std.proofs.lemmas.List.{length-take-le, length-drop, take_rest}
use Rattle.std.proofs.lemmas.Bool.{eq-eqb}
use Rattle.std.proofs.lemmas.Bool.Decides.{eqb_tells}
use Rattle.dm_capture.specs.declared.order.Order.{Order}
use Rattle.dm_capture.specs.Numbers.{ordered_number}
use Rattle.dm_capture.specs.Options.{BlockOption, AreOptions, first_value, value_size, option_size, option_at}

-- no whole option stands at the front
abbrev pub Ends : Order → List ℕ → Type 0
Ends order s = (length s < 4) ⊎ (ordered_number order 2 s ≡ 0) ⊎ (length s < option_size order s)

-- a whole option does
pub record Begins (order : Order) (s : List ℕ) : Type 0 where
  pub head : 4 ≤ length s
  pub code : ordered_number order 2 s ≢ 0
  pub whole : option_size order s ≤ length s

never_both : (order : Order) (s : List ℕ) → Begins order s → Ends order s → ⊥
never_both order s begins (inl short) = omega (arith, begins.head)
never_both order s begins (inr (inl zero)) = begins.code zero
never_both order s begins (inr (inr part)) = omega (arith, begins.whole)

-- where the options end, no first is found
pub none_first : (order : Order) (s : List ℕ) (code size : ℕ) → Ends order s → (options : List BlockOption) →
    AreOptions order s options → first_value code size options ≡ None
none_first order s code size ends [] spelled = refl
none_first order s code size ends (option ∷ options) spelled =
    absurd (never_both order s (record { head = spelled.0; code = spelled.1; whole = spelled.2 }) ends)

taken : {X : Type 0} (b : Bool) (x y : X) → b ≡ true → (if b then x else y) ≡ x
taken b x y e = ap (λ t. if t then x else y) e

left_out : {X : Type 0} (b : Bool) (x y : X) → b ≡ false → (if b then x else y) ≡ y
left_out b x y e = ap (λ t. if t then x else y) e

-- the octets of its value are as many as it says
value_length : (order : Order) (s : List ℕ) → Begins order s →
    length (take (value_size order s) (drop 4 s)) ≡ value_size order s
value_length order s begins =
    length-take-le (value_size order s) (drop 4 s) (omega (arith, length-drop 4 s, begins.whole))

-- the option at the front is the first, if it is the one that is looked for
pub front_first : (order : Order) (s : List ℕ) (code size : ℕ) → Begins order s → ordered_number order 2 s ≡ code →
    value_size order s ≡ size → (options : List BlockOption) → AreOptions order s options →
    first_value code size options ≡ Some (take (value_size order s) (drop 4 s))
front_first order s code size begins is sized [] spelled = absurd (never_both order s begins spelled)
front_first order s code size begins is sized (option ∷ options) spelled =
    ap (λ o. first_value code size (o ∷ options)) spelled.3 ∙
    taken (nat_eq (ordered_number order 2 s) code) _ _ (eq-eqb (ordered_number order 2 s) code is) ∙
    taken (nat_eq (length (take (value_size order s) (drop 4 s))) size) _ _
    (eq-eqb (length (take (value_size order s) (drop 4 s))) size (value_length order s begins ∙ sized))

-- an option that isn't looked for is passed by
passed_by : (code size : ℕ) (option : BlockOption) (options : List BlockOption) →
    (option.code ≡ code → length option.value ≡ size → ⊥) →
    first_value code size (option ∷ options) ≡ first_value code size options
passed_by code size option options other = by (eqb_tells option.code code) (eqb_tells (length option.value) size)
  where
    by : ((nat_eq option.code code ≡ true) × (option.code ≡ code)) ⊎
        ((nat_eq option.code code ≡ false) × (option.code ≢ code)) →
        ((nat_eq (length option.value) size ≡ true) × (length option.value ≡ size)) ⊎
        ((nat_eq (length option.value) size ≡ false) × (length option.value ≢ size)) →
        first_value code size (option ∷ options) ≡ first_value code size options
    by (inr same) sized = left_out (nat_eq option.code code) _ _ same.0
    by (inl same) (inl sized) = absurd (other same.1 sized.1)
    by (inl same) (inr sized) =
        taken (nat_eq option.code code) _ _ same.0 ∙ left_out (nat_eq (length option.value) size) _ _ sized.0

-- else the first is among the others
later_first : (order : Order) (s : List ℕ) (code size : ℕ) → Begins order s →
    (ordered_number order 2 s ≡ code → value_size order s ≡ size → ⊥) → (options : List BlockOption) →
    AreOptions order s options → (later : List BlockOption) × AreOptions order (drop (option_size order s) s) later ×
    (first_value code size options ≡ first_value code size later)
later_first order s code size begins other [] spelled = absurd (never_both order s begins spelled)
later_first order s code size begins other (option ∷ options) spelled = (
  options,
  spelled.4,
  ap (λ o. first_value code size (o ∷ options)) spelled.3 ∙
      passed_by code size (option_at order s) options
      (λ is sized. other is (sym (value_length order s begins) ∙ sized)),
)

-- the same where the rest is cut as the code cuts it
pub later_rest : (order : Order) (s : List ℕ) (code size n : ℕ) → n ≡ value_size order s → Begins order s →
    (ordered_number order 2 s ≡ code → value_size order s ≡ size → ⊥) → (options : List BlockOption) →
    AreOptions order s options → (later : List BlockOption) ×
    AreOptions order (take (length s - (4 + (n + 3) / 4 * 4)) (drop (4 + (n + 3) / 4 * 4) s)) later ×
    (first_value code size options ≡ first_value code size later)
later_rest order s code size n is begins other options spelled =
    let found = later_first order s code size begins other options spelled in
    let P : ℕ → Type 0 = λ m. AreOptions order (drop (4 + (m + 3) / 4 * 4) s) found.0 in
    (found.0, rw (take_rest s (4 + (n + 3) / 4 * 4)) (subst P (sym is) found.1), found.2)

-- from what was left before
pub joined : (order : Order) (s rest : List ℕ) (code size : ℕ) (options : List BlockOption) →
    ((later : List BlockOption) × AreOptions order s later ×
    (first_value code size options ≡ first_value code size later)) →
    ((later : List BlockOption) → AreOptions order s later → (more : List BlockOption) × AreOptions order rest more ×
    (first_value code size later ≡ first_value code size more)) →
    (more : List BlockOption) × AreOptions order rest more ×
    (first_value code size options ≡ first_value code size more)
joined order s rest code size options left step =
    let found = step left.0 left.1 in
    (found.0, found.1, left.2 ∙ found.2)
