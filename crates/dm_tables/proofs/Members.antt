-- Members that pass a test beside those before them.
use Rattle.std.proofs.Common.{◌≡◌, ℕ, Bool, true, false, ◌||◌, cond, List, [], ◌∷◌, ◌++◌, filter, find, Some, refl, sym, ap, subst, ◌∙◌, append_assoc, append-nil, true≢false, map, take, drop, length, get_or, add-one, ◌+◌, ◌<◌}
use Rattle.std.proofs.lemmas.List.{map-append}
use Rattle.std.proofs.Math.Seq.{drop-cons, take-suc}
use Rattle.std.proofs.lemmas.Bool.{and_parts}
use Rattle.std.proofs.lemmas.List.Folds.{list_any-append}
use Rattle.std.specs.List.{list_any}
use Rattle.std.specs.Option.{option_to_list}
use Rattle.dm_tables.specs.Sound.{each_after}

-- one more at the end
pub each_after-append : {D : Type 0} (test : List D → D → Bool) (before ds : List D) (d : D)
    → each_after test before ds ≡ true → test (before ++ ds) d ≡ true → each_after test before (ds ++ d ∷ []) ≡ true
each_after-append test before [] d h t =
    let here : test before d ≡ true = subst (λ b. test b d ≡ true) (append-nil before) t in
    rw here refl
each_after-append test before (e ∷ ds) d h t =
    let (first, rest) = and_parts (test before e) (each_after test (before ++ e ∷ []) ds) h in
    let behind : test (before ++ e ∷ [] ++ ds) d ≡ true = subst (λ b. test b d ≡ true)
    (sym (append_assoc before (e ∷ []) ds)) t in
    rw first (each_after-append test (before ++ e ∷ []) ds d rest behind)

or_true : (b : Bool) → (b || true) ≡ true
or_true true = refl
or_true false = refl

any_last : {D : Type 0} (p : D → Bool) (before : List D) (d : D) → p d ≡ true → list_any p (before ++ d ∷ []) ≡ true
any_last p before d h = list_any-append p before (d ∷ []) ∙ ap (λ b. list_any p before || (b || false)) h ∙ or_true _

any_more : {D : Type 0} (p : D → Bool) (before ds : List D) → list_any p before ≡ true
    → list_any p (before ++ ds) ≡ true
any_more p before ds h = list_any-append p before ds ∙ ap (λ b. b || list_any p ds) h

module _ {D : Type 0} (test : List D → D → Bool) (same : D → D → Bool) (p : D → Bool)
    (apart : (before : List D) (d : D) → test before d ≡ true → list_any (same d) before ≡ false)
    (exact : (d e : D) → p d ≡ true → p e ≡ same d e) where
  -- none is asked for behind one that is asked for
  none_behind : (before ds : List D) → each_after test before ds ≡ true → list_any p before ≡ true → filter p ds ≡ []
  none_behind before [] h some = refl
  none_behind before (d ∷ ds) h some =
      let (first, rest) = and_parts _ _ h in
      by (p d) refl first (none_behind (before ++ d ∷ []) ds rest (any_more p before (d ∷ []) some))
    where
      by : (b : Bool) → p d ≡ b → test before d ≡ true → filter p ds ≡ [] → cond b (d ∷ filter p ds) (filter p ds) ≡ []
      by true e first rest =
          let again : list_any p before ≡ list_any (same d) before = λ i. list_any (λ x. exact d x e i) before in
          absurd (true≢false (sym some ∙ again ∙ apart before d first))
      by false e first rest = rest

  -- the first that is asked for is the only one
  pub only_one : (before ds : List D) → each_after test before ds ≡ true → filter p ds ≡ option_to_list (find p ds)
  only_one before [] h = refl
  only_one before (d ∷ ds) h =
      let (first, rest) = and_parts _ _ h in
      by (p d) refl rest (only_one (before ++ d ∷ []) ds rest)
    where
      by : (b : Bool) → p d ≡ b → each_after test (before ++ d ∷ []) ds ≡ true
          → filter p ds ≡ option_to_list (find p ds)
          → cond b (d ∷ filter p ds) (filter p ds) ≡ option_to_list (cond b (Some d) (find p ds))
      by true e behind rest = ap (λ r. d ∷ r) (none_behind (before ++ d ∷ []) ds behind (any_last p before d e))
      by false e behind rest = rest

-- the next of some rows
pub next_member : {D R : Type 0} (test : List D → D → Bool) (f : R → D) (before : List D) (rows : List R) (i : ℕ)
    (d : R) → i < length rows → each_after test before (map f (drop i rows)) ≡ true
    → (test before (f (get_or rows i d)) ≡ true) ×
    (each_after test (before ++ f (get_or rows i d) ∷ []) (map f (drop (i + 1) rows)) ≡ true)
next_member test f before rows i d h sound =
    let here : drop i rows ≡ get_or rows i d ∷ drop (i + 1) rows = rw (add-one i) (drop-cons rows i d h) in
    and_parts _ _ (rw here at sound)

pub take_member : {D R : Type 0} (f : R → D) (rows : List R) (i : ℕ) (d : R) → i < length rows
    → map f (take (i + 1) rows) ≡ map f (take i rows) ++ f (get_or rows i d) ∷ []
take_member f rows i d h =
    rw (add-one i) (ap (map f) (take-suc rows i d h) ∙ map-append f (take i rows) (get_or rows i d ∷ []))

pub member_pushed : {D R : Type 0} (f : R → D) (old : List D) (rows : List R) (i : ℕ) (d : R) → i < length rows
    → old ++ map f (take i rows) ++ f (get_or rows i d) ∷ [] ≡ old ++ map f (take (i + 1) rows)
member_pushed f old rows i d h =
    append_assoc old (map f (take i rows)) (f (get_or rows i d) ∷ []) ∙ ap (λ r. old ++ r)
    (sym (take_member f rows i d h))

-- the next of some definitions
pub next_def : {D : Type 0} (test : List D → D → Bool) (before ds : List D) (i : ℕ) (d x : D) → i < length ds
    → x ≡ get_or ds i d → each_after test before (drop i ds) ≡ true
    → (test before x ≡ true) × (each_after test (before ++ x ∷ []) (drop (i + 1) ds) ≡ true)
next_def test before ds i d x h at sound =
    let here : drop i ds ≡ x ∷ drop (i + 1) ds = rw (at, add-one i) (drop-cons ds i d h) in
    and_parts _ _ (rw here at sound)

-- one of the definitions that are left moves over
pub moved : {D : Type 0} (old new all ds : List D) (i : ℕ) (d x : D) → i < length ds → x ≡ get_or ds i d
    → old ++ drop i ds ≡ all → new ≡ old ++ x ∷ [] → new ++ drop (i + 1) ds ≡ all
moved old new all ds i d x h at e g =
    let here : drop i ds ≡ x ∷ drop (i + 1) ds = rw (at, add-one i) (drop-cons ds i d h) in
    ap (λ l. l ++ drop (i + 1) ds) g ∙ append_assoc old (x ∷ []) (drop (i + 1) ds) ∙ ap (λ l. old ++ l) (sym here) ∙ e
