-- A text is one script, or has one first bad line.
use Rattle.std.proofs.Common.{◌≡◌, ◌⊎◌, inl, inr, ℕ, suc, ◌+◌, false, cond, not, List, [], ◌∷◌, ◌++◌, length, arith, ap, sym, ◌∙◌, refl, subst}
use Rattle.dm_text.specs.Lines.{trimmed, is_skipped, content, content_lines}
use Rattle.dm_text.specs.Joined.{ContentIsJoined}
use Rattle.dm_world.specs.declared.side.Side.TheVariants.{A, B}
use Rattle.dm_world.specs.declared.happening.Happening.{Happening}
use Rattle.dm_replay.specs.HostLines.{Host, TellsHost}
use Rattle.dm_replay.specs.Scripts.{TellsEach, TellsScript, MayStandBehind, MayFollow, BreaksAt, BreaksOff}
use Rattle.dm_replay.specs.OneScript.{OneScript, OneBadLine, NoScriptIsBad, NothingIsNotBad}
use Rattle.dm_replay.proofs.OneTold.{one_happening, one_host}
use Rattle.dm_replay.proofs.Ends.{each-follow}

same_head : {x y : List ℕ} {s t : List (List ℕ)} → x ∷ s ≡ y ∷ t → x ≡ y
same_head e = cc

same_second : {a x b y : List ℕ} {s t : List (List ℕ)} → a ∷ x ∷ s ≡ b ∷ y ∷ t → x ≡ y
same_second e = cc

same_rest : {a x b y : List ℕ} {s t : List (List ℕ)} → a ∷ x ∷ s ≡ b ∷ y ∷ t → s ≡ t
same_rest e = cc

one_each : (list list' : List Happening) (s : List (List ℕ)) → TellsEach list s → TellsEach list' s → list ≡ list'
one_each [] [] s h g = refl
one_each [] (k ∷ list') [] h g = absurd g
one_each [] (k ∷ list') (line ∷ s) h g = absurd h
one_each (h' ∷ list) [] [] h g = absurd h
one_each (h' ∷ list) [] (line ∷ s) h g = absurd g
one_each (h' ∷ list) (k ∷ list') [] h g = absurd h
one_each (h' ∷ list) (k ∷ list') (line ∷ s) h g =
    ap (λ v. v ∷ list) (one_happening h' k line h.0 g.0) ∙ ap (λ v. k ∷ v) (one_each list list' s h.1 g.1)

pub one_script : OneScript
one_script left right left' right' list list' text h g =
    let e = sym h.whole ∙ g.whole in
    let Left : List ℕ → Type 0 = λ v. TellsHost A left v in
    let Right : List ℕ → Type 0 = λ v. TellsHost B right v in
    let Each : List (List ℕ) → Type 0 = λ v. TellsEach list v in (
      one_host A left left' g.first (subst Left (same_head e) h.tells_left) g.tells_left,
      one_host B right right' g.second (subst Right (same_second e) h.tells_right) g.tells_right,
      one_each list list' g.rest (subst Each (same_rest e) h.tells_list) g.tells_list,
    )

-- what may stand in the midst of lines
follow-at : (n : ℕ) (s t : List (List ℕ)) (x : List ℕ) → MayFollow n (s ++ x ∷ t) → MayStandBehind (length s + n) x
follow-at n [] t x h = let At : ℕ → Type 0 = λ k. MayStandBehind k x in let same : n ≡ 0 + n = omega arith in subst At
    same h.0
follow-at n (a ∷ s) t x h =
    let At : ℕ → Type 0 = λ k. MayStandBehind k x in
    let same : length s + suc n ≡ length (a ∷ s) + n = omega arith in
    subst At same (follow-at (suc n) s t x h.1)

content-cut : ContentIsJoined → (before : List (List ℕ)) (line : List ℕ) (after : List (List ℕ))
    → is_skipped (trimmed line) ≡ false
    → content (before ++ line ∷ after) ≡ content before ++ trimmed line ∷ content after
content-cut joined before line after counts =
    joined before (line ∷ after) ∙ ap
    (λ b. content before ++ cond (not b) (trimmed line ∷ content after) (content after)) counts

-- lines that may all stand where they do have no bad one among them
none_bad : ContentIsJoined → (before : List (List ℕ)) (line : List ℕ) (after : List (List ℕ))
    → is_skipped (trimmed line) ≡ false
    → MayFollow 0 (content (before ++ line ∷ after)) → MayStandBehind (length (content before)) (trimmed line)
none_bad joined before line after counts follow =
    let Follow : List (List ℕ) → Type 0 = λ v. MayFollow 0 v in
    let At : ℕ → Type 0 = λ k. MayStandBehind k (trimmed line) in
    let same : length (content before) + 0 ≡ length (content before) = omega arith in
    subst At same
    (follow-at 0 (content before) (content after) (trimmed line)
    (subst Follow (content-cut joined before line after counts) follow))

no_break : ContentIsJoined → (text : List ℕ) (n : ℕ) → MayFollow 0 (content_lines text) → BreaksAt text n → ⊥
no_break joined text n follow h =
    let Follow : List (List ℕ) → Type 0 = λ v. MayFollow 0 (content v) in
    h.bad (none_bad joined h.before h.line h.after h.stands (subst Follow h.whole follow))

script-follows : (left right : Host) (list : List Happening) (text : List ℕ) → TellsScript left right list text
    → MayFollow 0 (content_lines text)
script-follows left right list text h =
    let Follow : List (List ℕ) → Type 0 = λ v. MayFollow 0 v in
    subst Follow (sym h.whole) ((left, h.tells_left), ((right, h.tells_right), each-follow 0 list h.rest h.tells_list))

pub not_both : ContentIsJoined → NoScriptIsBad
not_both joined left right list n text h (inl b) = no_break joined text n (script-follows left right list text h) b
not_both joined left right list n text h (inr b) = two_or_one (sym h.whole ∙ b.whole) where
  two_or_one : {a b c : List ℕ} {s : List (List ℕ)} → a ∷ b ∷ s ≡ c ∷ [] → ⊥
  two_or_one e = cc

no_middle : (s t : List (List ℕ)) (x : List ℕ) → s ++ x ∷ t ≡ [] → ⊥
no_middle [] t x e = cc
no_middle (a ∷ s) t x e = cc

pub not_nothing : ContentIsJoined → NothingIsNotBad
not_nothing joined n text none (inl h) =
    no_middle (content h.before) (content h.after) (trimmed h.line)
    (sym (content-cut joined h.before h.line h.after h.stands) ∙ ap content (sym h.whole) ∙ none)
not_nothing joined n text none (inr h) = no_middle [] [] h.line (sym h.whole ∙ none)

-- two cuts of a list at an element are one cut, or one comes before the other
abbrev OneCut : List (List ℕ) → List ℕ → List (List ℕ) → List ℕ → Type 0
OneCut x a y b = (x ≡ y) ⊎
    (((more : List (List ℕ)) × (y ≡ x ++ a ∷ more)) ⊎ ((more : List (List ℕ)) × (x ≡ y ++ b ∷ more)))

cuts-cons : (c d : List ℕ) (x y : List (List ℕ)) (a b : List ℕ) → c ≡ d → OneCut x a y b → OneCut (c ∷ x) a (d ∷ y) b
cuts-cons c d x y a b e (inl h) = inl (ap (λ v. v ∷ x) e ∙ ap (λ v. d ∷ v) h)
cuts-cons c d x y a b e (inr (inl h)) = inr (inl (h.0, ap (λ v. v ∷ y) (sym e) ∙ ap (λ v. c ∷ v) h.1))
cuts-cons c d x y a b e (inr (inr h)) = inr (inr (h.0, ap (λ v. v ∷ x) e ∙ ap (λ v. d ∷ v) h.1))

cuts : (x y s t : List (List ℕ)) (a b : List ℕ) → x ++ a ∷ s ≡ y ++ b ∷ t → OneCut x a y b
cuts [] [] s t a b e = inl refl
cuts [] (d ∷ y) s t a b e = let same : a ≡ d = cc in inr (inl (y, ap (λ v. v ∷ y) (sym same)))
cuts (c ∷ x) [] s t a b e = let same : c ≡ b = cc in inr (inr (x, ap (λ v. v ∷ x) same))
cuts (c ∷ x) (d ∷ y) s t a b e = let rest : x ++ a ∷ s ≡ y ++ b ∷ t = cc in cuts-cons c d x y a b (cc)
    (cuts x y s t a b rest)

-- a bad line isn't among those before another
not_later : ContentIsJoined
    → (text : List ℕ) (n k : ℕ) (h : BreaksAt text n) (g : BreaksAt text k) (more : List (List ℕ))
    → g.before ≡ h.before ++ h.line ∷ more → ⊥
not_later joined text n k h g more e =
    let Follow : List (List ℕ) → Type 0 = λ v. MayFollow 0 (content v) in
    h.bad (none_bad joined h.before h.line more h.stands (subst Follow e g.good))

one_break : ContentIsJoined → (text : List ℕ) (n k : ℕ) (h : BreaksAt text n) (g : BreaksAt text k)
    → OneCut h.before h.line g.before g.line → n ≡ k
one_break joined text n k h g (inl e) = h.number ∙ ap (λ v. length v + 1) e ∙ sym g.number
one_break joined text n k h g (inr (inl e)) = absurd (not_later joined text n k h g e.0 e.1)
one_break joined text n k h g (inr (inr e)) = absurd (not_later joined text k n g h e.0 e.1)

off-follows : (text : List ℕ) (n : ℕ) → BreaksOff text n → MayFollow 0 (content_lines text)
off-follows text n h = let Follow : List (List ℕ) → Type 0 = λ v. MayFollow 0 v in subst Follow (sym h.whole)
    (h.good, tt)

pub one_bad_line : ContentIsJoined → OneBadLine
one_bad_line joined n k text (inl h) (inl g) = one_break joined text n k h g
    (cuts h.before g.before h.after g.after h.line g.line (sym h.whole ∙ g.whole))
one_bad_line joined n k text (inl h) (inr g) = absurd (no_break joined text n (off-follows text k g) h)
one_bad_line joined n k text (inr h) (inl g) = absurd (no_break joined text k (off-follows text n h) g)
one_bad_line joined n k text (inr h) (inr g) = h.number ∙ sym g.number
