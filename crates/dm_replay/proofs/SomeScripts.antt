-- A text stands for nothing, is a script, or has a first bad line.
use Rattle.std.proofs.Common.{◌≡◌, ◌⊎◌, inl, inr, ℕ, zero, suc, ◌+◌, Bool, true, false, cond, not, List, [], ◌∷◌, ◌++◌, length, append_assoc, append-nil, arith, ap, sym, ◌∙◌, refl, subst}
use Rattle.std.specs.Str.Lines.{lines}
use Rattle.dm_text.specs.Lines.{trimmed, is_skipped, content, content_lines}
use Rattle.dm_text.specs.Joined.{ContentIsJoined}
use Rattle.dm_text.specs.ReadBack.{NumberOrNone}
use Rattle.dm_world.specs.declared.side.Side.TheVariants.{A, B}
use Rattle.dm_world.specs.declared.happening.Happening.{Happening}
use Rattle.dm_replay.specs.Scripts.{TellsEach, MayStandBehind, MayFollow, IsFirstBad}
use Rattle.dm_replay.specs.OneScript.{IsScript, SomeScript}
use Rattle.dm_replay.proofs.Told.{Decided}
use Rattle.dm_replay.proofs.ToldLines.{happening_told, host_told}

decide_told : {X : Type 0} {Tells : X → Type 0} → ((x : X) × Tells x) ⊎ ((x : X) → Tells x → ⊥)
    → Decided ((x : X) × Tells x)
decide_told (inl h) = inl h
decide_told (inr none) = inr (λ t. none t.0 t.1)

may_stand : NumberOrNone → (n : ℕ) (line : List ℕ) → Decided (MayStandBehind n line)
may_stand numbers zero line = decide_told (host_told numbers A line)
may_stand numbers (suc zero) line = decide_told (host_told numbers B line)
may_stand numbers (suc (suc n)) line = decide_told (happening_told numbers line)

follow-push : (n : ℕ) (s : List (List ℕ)) (x : List ℕ) → MayFollow n s → MayStandBehind (length s + n) x
    → MayFollow n (s ++ x ∷ [])
follow-push n [] x follow may = let At : ℕ → Type 0 = λ k. MayStandBehind k x in let same : 0 + n ≡ n = omega arith in
    (subst At same may, tt)
follow-push n (a ∷ s) x follow may =
    let At : ℕ → Type 0 = λ k. MayStandBehind k x in
    let same : length (a ∷ s) + n ≡ length s + suc n = omega arith in
    (follow.0, follow-push (suc n) s x follow.1 (subst At same may))

-- the first line that may not stand where it does, or none
abbrev BreaksIn : List (List ℕ) → Type 0
BreaksIn all =
    (before : List (List ℕ)) × (line : List ℕ) × (after : List (List ℕ)) × (all ≡ before ++ line ∷ after)
    × (is_skipped (trimmed line) ≡ false)
    × MayFollow 0 (content before) × (MayStandBehind (length (content before)) (trimmed line) → ⊥)

content-one : (line : List ℕ) (b : Bool) → is_skipped (trimmed line) ≡ b
    → content (line ∷ []) ≡ cond (not b) (trimmed line ∷ []) []
content-one line b is = ap (λ v. cond (not v) (trimmed line ∷ []) []) is

abbrev Scanned : List (List ℕ) → Type 0
Scanned all = MayFollow 0 (content all) ⊎ BreaksIn all

scan : ContentIsJoined → NumberOrNone → (before rest : List (List ℕ)) → MayFollow 0 (content before)
    → Scanned (before ++ rest)
scan joined numbers before [] follow =
    let Follow : List (List ℕ) → Type 0 = λ v. MayFollow 0 (content v) in inl
    (subst Follow (sym (append-nil before)) follow)
scan joined numbers before (line ∷ rest) follow =
    by (λ f. subst Scanned (append_assoc before (line ∷ []) rest)
    (scan joined numbers (before ++ line ∷ []) rest f)) (is_skipped (trimmed line)) refl
  where
    one : (b : Bool) → is_skipped (trimmed line) ≡ b
        → content (before ++ line ∷ []) ≡ content before ++ cond (not b) (trimmed line ∷ []) []
    one b is = joined before (line ∷ []) ∙ ap (λ v. content before ++ v) (content-one line b is)

    stand : (MayFollow 0 (content (before ++ line ∷ [])) → Scanned (before ++ line ∷ rest))
        → is_skipped (trimmed line) ≡ false
        → Decided (MayStandBehind (length (content before)) (trimmed line)) → Scanned (before ++ line ∷ rest)
    stand later is (inl may) =
        let Follow : List (List ℕ) → Type 0 = λ v. MayFollow 0 v in
        let At : ℕ → Type 0 = λ k. MayStandBehind k (trimmed line) in
        let same : length (content before) ≡ length (content before) + 0 = omega arith in
        later (subst Follow (sym (one false is))
        (follow-push 0 (content before) (trimmed line) follow (subst At same may)))
    stand later is (inr bad) = inr (before, line, rest, refl, is, follow, bad)

    by : (MayFollow 0 (content (before ++ line ∷ [])) → Scanned (before ++ line ∷ rest)) → (b : Bool)
        → is_skipped (trimmed line) ≡ b → Scanned (before ++ line ∷ rest)
    by later true is =
        let Follow : List (List ℕ) → Type 0 = λ v. MayFollow 0 v in later
        (subst Follow (sym (one true is ∙ append-nil (content before))) follow)
    by later false is = stand later is (may_stand numbers (length (content before)) (trimmed line))

each_of : (n : ℕ) (s : List (List ℕ)) → MayFollow (suc (suc n)) s → (list : List Happening) × TellsEach list s
each_of n [] follow = ([], tt)
each_of n (line ∷ s) follow = let more = each_of (suc n) s follow.1 in (follow.0.0 ∷ more.0, (follow.0.1, more.1))

abbrev Outcome : List ℕ → Type 0
Outcome text = (content_lines text ≡ []) ⊎ IsScript text ⊎ ((n : ℕ) × IsFirstBad text n)

by_lines : (text : List ℕ) (l : List (List ℕ)) → content_lines text ≡ l → MayFollow 0 l → Outcome text
by_lines text [] is follow = inl is
by_lines text (x ∷ []) is follow =
    inr (inr (length (lines text), inr (record { line = x; whole = is; good = follow.0; number = refl })))
by_lines text (x ∷ y ∷ rest) is follow =
    let list = each_of 0 rest follow.1.1 in
    inr (
    inl (
      follow.0.0,
      follow.1.0.0,
      list.0,
      record {
        first = x;
        second = y;
        rest = rest;
        whole = is;
        tells_left = follow.0.1;
        tells_right = follow.1.0.1;
        tells_list = list.1;
      },
    )
    )

pub some_script : ContentIsJoined → NumberOrNone → SomeScript
some_script joined numbers text = by (scan joined numbers [] (lines text) tt) where
  by : Scanned (lines text) → Outcome text
  by (inl follow) = by_lines text (content_lines text) refl follow
  by (inr b) =
      inr (
      inr (
        length b.0 + 1,
        inl (record {
          before = b.0;
          line = b.1;
          after = b.2;
          whole = b.3;
          stands = b.4;
          good = b.5;
          bad = b.6;
          number = refl;
        }),
      )
      )
