-- Whether a line tells a peer or a happening, and which.
use Rattle.std.proofs.Common.{◌≡◌, inl, inr, ℕ, Bool, true, false, List, [], ◌∷◌, codes, ap, sym, ◌∙◌, refl, subst}
use Rattle.dm_text.specs.Words.{words}
use Rattle.dm_text.specs.Numbers.{TellsNumber}
use Rattle.dm_text.specs.ReadBack.{NumberOrNone}
use Rattle.dm_base.specs.Fit.{is_name}
use Rattle.dm_world.specs.declared.side.Side.{Side}
use Rattle.dm_world.specs.declared.happening.Happening.{Happening}
use Rattle.dm_replay.specs.declared.verb.Verb.{Verb}
use Rattle.dm_replay.specs.HappeningLines.{side_name, word_of, verb_of, TellsArguments, TellsHappening}
use Rattle.dm_replay.specs.HostLines.{Host, TellsHost}
use Rattle.dm_replay.proofs.OneTold.{one_verb}
use Rattle.dm_replay.proofs.Told.{Decided, same_words, Told, verb_told}
use Rattle.dm_replay.proofs.ToldArguments.{TellsVerb, arguments_told}

same_head : {x y : List ℕ} {s t : List (List ℕ)} → x ∷ s ≡ y ∷ t → x ≡ y
same_head e = cc

same_tail : {x y : List ℕ} {s t : List (List ℕ)} → x ∷ s ≡ y ∷ t → s ≡ t
same_tail e = cc

-- whether a line tells a happening
pub happening_told : NumberOrNone → (line : List ℕ) → Told {X = Happening} (λ h. TellsHappening h line)
happening_told numbers line = by (words line) refl where
  behind : (v : Verb) (args : List (List ℕ)) → words line ≡ word_of v ∷ args → TellsVerb v args → Told
      {X = Happening} (λ h. TellsHappening h line)
  behind v args is (inl h) = inl (h.0, (args, is ∙ ap (λ k. word_of k ∷ args) (sym h.1), h.2))
  behind v args is (inr none) =
      inr (λ h t.
      let e = sym is ∙ t.1 in
      let Args : List (List ℕ) → Type 0 = λ l. TellsArguments h l in
      none h (sym (one_verb v (verb_of h) (same_head e))) (subst Args (sym (same_tail e)) t.2))

  by_verb : (word : List ℕ) (args : List (List ℕ)) → words line ≡ word ∷ args → Told {X = Verb}
      (λ v. word ≡ word_of v) → Told {X = Happening} (λ h. TellsHappening h line)
  by_verb word args is (inl h) = behind h.0 args (is ∙ ap (λ v. v ∷ args) h.1) (arguments_told numbers h.0 args)
  by_verb word args is (inr none) = inr (λ h t. none (verb_of h) (same_head (sym is ∙ t.1)))

  by : (l : List (List ℕ)) → words line ≡ l → Told {X = Happening} (λ h. TellsHappening h line)
  by [] is = inr (λ h t. let e = sym is ∙ t.1 in cc)
  by (word ∷ args) is = by_verb word args is (verb_told word)

-- whether a line tells a side's peer
pub host_told : NumberOrNone → (side : Side) (line : List ℕ) → Told {X = Host} (λ h. TellsHost side h line)
host_told numbers side line = by (words line) refl where
  parts : (a b host n : List ℕ) → words line ≡ a ∷ b ∷ host ∷ n ∷ [] → Decided (a ≡ codes "peer")
      → Decided (b ≡ side_name side) → Decided (is_name host ≡ true)
      → Told {X = ℕ} (λ k. TellsNumber k n) → Told {X = Host} (λ h. TellsHost side h line)
  parts a b host n is (inr none) y z k = inr (λ h t. let e = sym is ∙ t.1 in none (cc))
  parts a b host n is (inl x) (inr none) z k = inr (λ h t. let e = sym is ∙ t.1 in none (cc))
  parts a b host n is (inl x) (inl y) (inr none) k =
      inr (λ h t. let e = sym is ∙ t.1 in let same : h.host ≡ host = cc in none (ap is_name (sym same) ∙ t.2))
  parts a b host n is (inl x) (inl y) (inl z) (inr none) =
      inr (λ h t.
      let e = sym is ∙ t.1 in
      let At : List ℕ → Type 0 = λ v. TellsNumber h.application v in
      let same : t.0 ≡ n = cc in
      none h.application (subst At same t.3))
  parts a b host n is (inl x) (inl y) (inl z) (inl k) =
      inl (
        record { host = host; application = k.0 },
        (n, is ∙ ap (λ v. v ∷ b ∷ host ∷ n ∷ []) x ∙ ap (λ v. codes "peer" ∷ v ∷ host ∷ n ∷ []) y, z, k.1),
      )

  good : (b : Bool) → Decided (b ≡ true)
  good true = inl refl
  good false = inr (λ e. cc)

  by : (l : List (List ℕ)) → words line ≡ l → Told {X = Host} (λ h. TellsHost side h line)
  by [] is = inr (λ h t. let e = sym is ∙ t.1 in cc)
  by (a ∷ []) is = inr (λ h t. let e = sym is ∙ t.1 in cc)
  by (a ∷ b ∷ []) is = inr (λ h t. let e = sym is ∙ t.1 in cc)
  by (a ∷ b ∷ host ∷ []) is = inr (λ h t. let e = sym is ∙ t.1 in cc)
  by (a ∷ b ∷ host ∷ n ∷ m ∷ l) is = inr (λ h t. let e = sym is ∙ t.1 in cc)
  by (a ∷ b ∷ host ∷ n ∷ []) is =
      parts a b host n is (same_words a (codes "peer")) (same_words b (side_name side)) (good (is_name host))
      (numbers 4294967295 n)
