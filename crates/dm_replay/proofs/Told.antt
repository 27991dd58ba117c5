-- Whether words tell a side, a verb, a cause or octets, and which.
use Rattle.std.proofs.Common.{◌≡◌, ◌⊎◌, inl, inr, ℕ, Option, Some, None, List, [], ◌∷◌, codes, ap, sym, ◌∙◌, refl, subst}
use Rattle.std.proofs.lemmas.Bool.{cases_eq}
use Rattle.dm_text.specs.Numbers.{TellsNumber}
use Rattle.dm_text.specs.Hexadecimal.{word_octets}
use Rattle.dm_text.specs.ReadBack.{NumberOrNone}
use Rattle.dm_base.specs.declared.kind.Cause.{Cause}
use Rattle.dm_base.specs.declared.kind.Cause.TheVariants.{Rebooting, Busy, DoNotWantToTalkToYou}
use Rattle.dm_world.specs.declared.side.Side.{Side}
use Rattle.dm_world.specs.declared.side.Side.TheVariants.{A, B}
use Rattle.dm_replay.specs.declared.verb.Verb.{Verb}
use Rattle.dm_base.specs.Built.{cause_number}
use Rattle.dm_replay.specs.HappeningLines.{side_name, word_of}
use Rattle.dm_replay.proofs.OneTold.{verb_in, verb_in-word}

-- the statement or its contrary
abbrev pub Decided : Type 0 → Type 0
Decided P = P ⊎ (P → ⊥)

pub same_words : (s t : List ℕ) → Decided (s ≡ t)
same_words [] [] = inl refl
same_words [] (b ∷ t) = inr (λ e. cc)
same_words (a ∷ s) [] = inr (λ e. cc)
same_words (a ∷ s) (b ∷ t) = by (cases_eq a b) (same_words s t) where
  by : Decided (a ≡ b) → Decided (s ≡ t) → Decided (a ∷ s ≡ b ∷ t)
  by (inl h) (inl k) = inl (ap (λ v. v ∷ s) h ∙ ap (λ v. b ∷ v) k)
  by (inl h) (inr k) = inr (λ e. k (cc))
  by (inr h) k = inr (λ e. h (cc))

-- what a list of words tells, where it tells anything
abbrev pub Told : {X : Type 0} → (X → Type 0) → Type 0
Told {X} Tells = ((x : X) × Tells x) ⊎ ((x : X) → Tells x → ⊥)

pub side_told : (word : List ℕ) → Told {X = Side} (λ s. word ≡ side_name s)
side_told word = by (same_words word (codes "A")) (same_words word (codes "B")) where
  neither : (word ≡ codes "A" → ⊥) → (word ≡ codes "B" → ⊥) → (s : Side) → word ≡ side_name s → ⊥
  neither h k A = h
  neither h k B = k

  by : Decided (word ≡ codes "A") → Decided (word ≡ codes "B") → Told {X = Side} (λ s. word ≡ side_name s)
  by (inl h) k = inl (A, h)
  by (inr h) (inl k) = inl (B, k)
  by (inr h) (inr k) = inr (neither h k)

pub verb_told : (word : List ℕ) → Told {X = Verb} (λ v. word ≡ word_of v)
verb_told word = by (same_words word (word_of (verb_in word))) where
  by : Decided (word ≡ word_of (verb_in word)) → Told {X = Verb} (λ v. word ≡ word_of v)
  by (inl h) = inl (verb_in word, h)
  by (inr h) = inr (λ v e. h (e ∙ ap word_of (sym (ap verb_in e ∙ verb_in-word v))))

-- one, two or three words that tell something each
abbrev pub OneWord : {X : Type 0} → (X → List ℕ → Type 0) → List (List ℕ) → X → Type 0
OneWord P args x = (a : List ℕ) × (args ≡ a ∷ []) × P x a

abbrev pub TwoWords : {X Y : Type 0} → (X → List ℕ → Type 0) → (Y → List ℕ → Type 0) → List (List ℕ) → X × Y → Type 0
TwoWords P Q args r = (a b : List ℕ) × (args ≡ a ∷ b ∷ []) × P r.0 a × Q r.1 b

abbrev pub ThreeWords : {X Y Z : Type 0} → (X → List ℕ → Type 0) → (Y → List ℕ → Type 0) → (Z → List ℕ → Type 0)
    → List (List ℕ) → X × Y × Z → Type 0
ThreeWords P Q R args r = (a b c : List ℕ) × (args ≡ a ∷ b ∷ c ∷ []) × P r.0 a × Q r.1 b × R r.2 c

pub one : {X : Type 0} (P : X → List ℕ → Type 0) → ((w : List ℕ) → Told {X = X} (λ x. P x w)) → (args : List (List ℕ)) →
    Told {X = X} (OneWord P args)
one P told [] = inr (λ x t. let e = t.1 in cc)
one P told (a ∷ b ∷ l) = inr (λ x t. let e = t.1 in cc)
one {X} P told (a ∷ []) = by (told a) where
  by : Told {X = X} (λ x. P x a) → Told {X = X} (OneWord P (a ∷ []))
  by (inl h) = inl (h.0, (a, refl, h.1))
  by (inr h) = inr
      (λ x t. let e = t.1 in let At : List ℕ → Type 0 = P x in let same : t.0 ≡ a = cc in h x (subst At same t.2))

pub two : {X Y : Type 0} (P : X → List ℕ → Type 0) (Q : Y → List ℕ → Type 0)
    → ((w : List ℕ) → Told {X = X} (λ x. P x w)) → ((w : List ℕ) → Told {X = Y} (λ y. Q y w))
    → (args : List (List ℕ)) → Told {X = X × Y} (TwoWords P Q args)
two P Q told also [] = inr (λ x t. let e = t.2 in cc)
two P Q told also (a ∷ []) = inr (λ x t. let e = t.2 in cc)
two P Q told also (a ∷ b ∷ c ∷ l) = inr (λ x t. let e = t.2 in cc)
two {X} {Y} P Q told also (a ∷ b ∷ []) = by (told a) (also b) where
  by : Told {X = X} (λ x. P x a) → Told {X = Y} (λ y. Q y b) → Told {X = X × Y} (TwoWords P Q (a ∷ b ∷ []))
  by (inl h) (inl k) = inl ((h.0, k.0), (a, b, refl, h.1, k.1))
  by (inl h) (inr k) = inr
      (λ r t. let e = t.2 in let At : List ℕ → Type 0 = Q r.1 in let same : t.1 ≡ b = cc in k r.1 (subst At same t.4))
  by (inr h) k = inr
      (λ r t. let e = t.2 in let At : List ℕ → Type 0 = P r.0 in let same : t.0 ≡ a = cc in h r.0 (subst At same t.3))

pub three : {X Y Z : Type 0} (P : X → List ℕ → Type 0) (Q : Y → List ℕ → Type 0) (R : Z → List ℕ → Type 0) →
    ((w : List ℕ) → Told {X = X} (λ x. P x w))
    → ((w : List ℕ) → Told {X = Y} (λ y. Q y w)) → ((w : List ℕ) → Told {X = Z} (λ z. R z w))
    → (args : List (List ℕ)) → Told {X = X × Y × Z} (ThreeWords P Q R args)
three P Q R told also too [] = inr (λ x t. let e = t.3 in cc)
three {X} {Y} {Z} P Q R told also too (a ∷ l) = by (told a) (two Q R also too l) where
  by : Told {X = X} (λ x. P x a) → Told {X = Y × Z} (TwoWords Q R l) → Told {X = X × Y × Z} (ThreeWords P Q R (a ∷ l))
  by (inl h) (inl k) = inl ((h.0, k.0.0, k.0.1), (a, k.1.0, k.1.1, ap (λ v. a ∷ v) k.1.2, h.1, k.1.3, k.1.4))
  by (inl h) (inr k) = inr
      (λ r t. let e = t.3 in k (r.1, r.2) (t.1, t.2, (let rest : l ≡ t.1 ∷ t.2 ∷ [] = cc in rest), t.5, t.6))
  by (inr h) k = inr
      (λ r t. let e = t.3 in let At : List ℕ → Type 0 = P r.0 in let same : t.0 ≡ a = cc in h r.0 (subst At same t.4))

abbrev pub Names : Side → List ℕ → Type 0
Names s word = word ≡ side_name s

abbrev pub Causes : Cause → List ℕ → Type 0
Causes cause word = TellsNumber (cause_number cause) word

abbrev pub Spells : List ℕ → List ℕ → Type 0
Spells octets word = word_octets word ≡ Some octets

pub octets_told : (word : List ℕ) → Told {X = List ℕ} (λ octets. Spells octets word)
octets_told word = by (word_octets word) refl where
  by : (o : Option (List ℕ)) → word_octets word ≡ o → Told {X = List ℕ} (λ octets. Spells octets word)
  by None is = inr (λ octets h. let both = sym is ∙ h in cc)
  by (Some octets) is = inl (octets, is)

pub cause_told : NumberOrNone → (word : List ℕ) → Told {X = Cause} (λ cause. Causes cause word)
cause_told numbers word = by (numbers 4294967295 word) where
  cause_in : (n : ℕ) → ((c : Cause) × (n ≡ cause_number c)) ⊎ ((c : Cause) → n ≡ cause_number c → ⊥)
  cause_in n = among (cases_eq n 0) (cases_eq n 1) (cases_eq n 2) where
    none : (n ≡ 0 → ⊥) → (n ≡ 1 → ⊥) → (n ≡ 2 → ⊥) → (c : Cause) → n ≡ cause_number c → ⊥
    none h k l Rebooting = h
    none h k l Busy = k
    none h k l DoNotWantToTalkToYou = l

    among : Decided (n ≡ 0) → Decided (n ≡ 1) → Decided (n ≡ 2)
        → ((c : Cause) × (n ≡ cause_number c)) ⊎ ((c : Cause) → n ≡ cause_number c → ⊥)
    among (inl h) k l = inl (Rebooting, h)
    among (inr h) (inl k) l = inl (Busy, k)
    among (inr h) (inr k) (inl l) = inl (DoNotWantToTalkToYou, l)
    among (inr h) (inr k) (inr l) = inr (none h k l)

  by : ((n : ℕ) × TellsNumber n word) ⊎ ((n : ℕ) → TellsNumber n word → ⊥) → Told {X = Cause}
      (λ cause. Causes cause word)
  by (inr h) = inr (λ cause t. h (cause_number cause) t)
  by (inl h) = known (cause_in h.0) where
    known : ((c : Cause) × (h.0 ≡ cause_number c)) ⊎ ((c : Cause) → h.0 ≡ cause_number c → ⊥) → Told {X = Cause}
        (λ cause. Causes cause word)
    known (inl k) = let At : ℕ → Type 0 = λ n. TellsNumber n word in inl (k.0, subst At k.1 h.1)
    known (inr k) = inr (λ cause t. k cause (sym h.1.1 ∙ t.1))
