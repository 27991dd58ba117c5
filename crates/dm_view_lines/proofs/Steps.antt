-- What is said of several lines, from what is said of each.
use Rattle.std.proofs.Common.{◌≡◌, ◌≤◌, ◌+◌, ◌++◌, ◌∷◌, [], ℕ, List, Bool, true, false, Option, Some, None, nat_eq, length, length-append, append_assoc, append-nil, arith, ap, sym, ◌∙◌, refl, subst}
use Rattle.std.proofs.lemmas.Bool.{eqb-true}
use Rattle.std.specs.Str.Lines.{lines}
use Rattle.dm_text.specs.Joined.{LinesAreFew}
use Rattle.dm_tables.specs.Definitions.{Definitions}
use Rattle.dm_view_lines.specs.declared.message_reports.Task.{Task}
use Rattle.dm_view_lines.specs.declared.tally.Tally.{Tally}
use Rattle.dm_view_lines.specs.Counts.{no_lines, tally_of, tallied}
use Rattle.dm_view_lines.specs.Said.{SaysOctets}
use Rattle.dm_view_lines.specs.Lines.{SaysLine, SaysEach}

pub added-assoc : (t u v : Tally) → tallied t (tallied u v) ≡ tallied (tallied t u) v
added-assoc t u v =
    let good : t.good + (u.good + v.good) ≡ t.good + u.good + v.good = omega arith in
    let bad : t.bad + (u.bad + v.bad) ≡ t.bad + u.bad + v.bad = omega arith in
    λ i. record { good = good i; bad = bad i }

pub added-none : (t : Tally) → tallied t no_lines ≡ t
added-none t =
    let good : t.good + 0 ≡ t.good = omega arith in
    let bad : t.bad + 0 ≡ t.bad = omega arith in
    λ i. record { good = good i; bad = bad i }

pub none-added : (t : Tally) → tallied no_lines t ≡ t
none-added t =
    let good : 0 + t.good ≡ t.good = omega arith in
    let bad : 0 + t.bad ≡ t.bad = omega arith in
    λ i. record { good = good i; bad = bad i }

-- what is said of a line goes behind the text so far, and before what is said of the lines to come
pub says-next : (task : Task) (d : Definitions) (all rest rest' : List (Option (List ℕ))) (n : ℕ)
    (line : Option (List ℕ)) (so first : List ℕ) (verdict : Option Bool) (tally : Tally) → rest ≡ line ∷ rest'
    → SaysLine task d n line first verdict
    → ((more : List ℕ) (others : Tally) → SaysEach task d n rest more others
    → SaysEach task d 1 all (so ++ more) (tallied tally others))
    → (more : List ℕ) (others : Tally) → SaysEach task d (n + 1) rest' more others
    → SaysEach task d 1 all ((so ++ first) ++ more) (tallied (tallied tally (tally_of verdict)) others)
says-next task d all rest rest' n line so first verdict tally h said whole more others later =
    let Front : List (Option (List ℕ)) → Type 0 = λ l. SaysEach task d n l (first ++ more) (tallied (tally_of verdict) others) in
    let front : Front rest = subst Front (sym h) (record {
      first = first;
      rest = more;
      verdict = verdict;
      others = others;
      line = said;
      behind = later;
      text_is = refl;
      tally_is = refl;
    }) in
    let Text : List ℕ → Type 0 = λ v. SaysEach task d 1 all v (tallied (tallied tally (tally_of verdict)) others) in
    let Counted : Tally → Type 0 = λ v. SaysEach task d 1 all (so ++ (first ++ more)) v in
    subst Text (sym (append_assoc so first more))
    (subst Counted (added-assoc tally (tally_of verdict) others) (whole (first ++ more) (tallied (tally_of verdict) others) front))

-- no lines are to come
pub says-all : (task : Task) (d : Definitions) (all rest : List (Option (List ℕ))) (n : ℕ) (so : List ℕ) (tally : Tally)
    → rest ≡ [] → ((more : List ℕ) (others : Tally) → SaysEach task d n rest more others
    → SaysEach task d 1 all (so ++ more) (tallied tally others))
    → SaysEach task d 1 all so tally
says-all task d all rest n so tally h whole =
    let Rest : List (Option (List ℕ)) → Type 0 = λ l. SaysEach task d n l [] no_lines in
    let Text : List ℕ → Type 0 = λ v. SaysEach task d 1 all v tally in
    let Counted : Tally → Type 0 = λ v. SaysEach task d 1 all (so ++ []) v in
    subst Text (append-nil so) (subst Counted (added-none tally) (whole [] no_lines (subst Rest (sym h) (refl, refl))))

-- a line that is there has a number that fits
pub line_counts : LinesAreFew → (input line rest rest' : List ℕ) (before : List (List ℕ))
    → lines input ≡ before ++ lines rest → lines rest ≡ line ∷ lines rest' → length before ≤ length input
line_counts few input line rest rest' before h k =
    let size = ap length (h ∙ ap (λ v. before ++ v) k) ∙ length-append before (line ∷ lines rest') in
    let most = few input in
    omega (arith, size, most)

-- the line behind those before it
pub lines-next : (input line rest rest' : List ℕ) (before : List (List ℕ)) → lines input ≡ before ++ lines rest
    → lines rest ≡ line ∷ lines rest' → lines input ≡ (before ++ line ∷ []) ++ lines rest'
lines-next input line rest rest' before h k =
    h ∙ ap (λ v. before ++ v) k ∙ sym (append_assoc before (line ∷ []) (lines rest'))

-- of octets what is said of them
pub says-some : (task : Task) (d : Definitions) (n : ℕ) (octets said : List ℕ) (good : Bool)
    → nat_eq (length octets) 0 ≡ false → SaysOctets task d n octets said good
    → SaysLine task d n (Some octets) said (Some good)
says-some task d n [] said good some h = absurd (cc)
says-some task d n (b ∷ s) said good some h = (good, h, refl)

-- and of none nothing
pub says-none : (task : Task) (d : Definitions) (n : ℕ) (octets : List ℕ) → nat_eq (length octets) 0 ≡ true
    → SaysLine task d n (Some octets) [] None
says-none task d n [] none = (refl, refl)
says-none task d n (b ∷ s) none = absurd (let zero = eqb-true (length (b ∷ s)) 0 none in omega arith)

-- one line more is counted
pub counted : (t : Tally) (verdict : Option Bool) (n : ℕ) → t.good + t.bad ≤ n
    → (tallied t (tally_of verdict)).good + (tallied t (tally_of verdict)).bad ≤ n + 1
counted t None n h = omega (arith, h)
counted t (Some true) n h = omega (arith, h)
counted t (Some false) n h = omega (arith, h)
