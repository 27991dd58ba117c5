-- What is said of lines, one part behind the other.
use Rattle.std.proofs.Common.{◌≡◌, ℕ, ◌+◌, List, [], ◌∷◌, ◌++◌, length, map, arith, append_assoc, ap, sym, ◌∙◌, refl, subst}
use Rattle.std.specs.Str.Lines.{lines}
use Rattle.dm_tables.specs.Definitions.{Definitions}
use Rattle.dm_view_lines.specs.declared.message_reports.Task.{Task}
use Rattle.dm_view_lines.specs.declared.tally.Tally.{Tally}
use Rattle.dm_view_lines.specs.Counts.{tally_of, tallied}
use Rattle.dm_view_lines.specs.Digits.{octets_of_line}
use Rattle.dm_view_lines.specs.Joined.{JoinedSaid}
use Rattle.dm_view_lines.specs.Lines.{SaysLines}
use Rattle.dm_view_lines.proofs.LinesSaid.{styled-join}
use Rattle.dm_view_lines.proofs.Seams.{whole-joins}
use Rattle.dm_view_lines.proofs.Steps.{added-assoc, none-added}
use Rattle.dm_view_lines.proofs.StreamSaid.{each-whole}

says-join : (task : Task) (d : Definitions) (n k : ℕ) (l more : List (List ℕ)) (t u : List ℕ) (a b : Tally)
    → k ≡ n + length l → SaysLines task d n l t a → SaysLines task d k more u b
    → SaysLines task d n (l ++ more) (t ++ u) (tallied a b)
says-join task d n k [] more t u a b at h later =
    let Number : ℕ → Type 0 = λ i. SaysLines task d i more u b in
    let Text : List ℕ → Type 0 = λ v. SaysLines task d n more (v ++ u) (tallied a b) in
    let Counted : Tally → Type 0 = λ v. SaysLines task d n more u v in
    let start : k ≡ n = omega (arith, at) in
    subst Text (sym h.0)
    (subst Counted (sym (ap (λ v. tallied v b) h.1 ∙ none-added b)) (subst Number start later))
says-join task d n k (line ∷ l) more t u a b at h later =
    let behind = says-join task d (n + 1) k l more h.rest u h.others b (omega (arith, at)) h.behind later in
    record {
      first = h.first;
      rest = h.rest ++ u;
      verdict = h.verdict;
      others = tallied h.others b;
      line = h.line;
      behind = behind;
      text_is = ap (λ v. v ++ u) h.text_is ∙ append_assoc h.first h.rest u;
      tally_is = ap (λ v. tallied v b) h.tally_is ∙ sym (added-assoc (tally_of h.verdict) h.others b);
    }

pub joined_said : JoinedSaid
joined_said coloured task d n front back first second tally others whole h later =
    let Lines : List (List ℕ) → Type 0 = λ l. SaysLines task d n l (first ++ second) (tallied tally others) in (
      subst Lines (sym (whole-joins front whole back))
          (says-join task d n (n + length (lines front)) (lines front) (lines back) first second tally others refl h later),
      styled-join coloured task first second (each-whole task d n (map octets_of_line (lines front)) first tally h),
    )
