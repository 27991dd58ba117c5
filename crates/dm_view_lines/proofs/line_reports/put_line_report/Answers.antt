use Rattle.std.proofs.Common.{◌≡◌, List, ℕ, Option, Some, None, codes, refl, ap, sym, ◌∙◌, subst, false}
use Rattle.std.specs.Option.{option_map}
use Rattle.dm_view_lines.specs.Lines.{SaysLine}
use Rattle.dm_view_lines.specs.Said.{bad_said}
use Rattle.dm_view_lines.proofs.line_reports.put_line_report.Goals as goal

pub returns-in_ok-put_numbered_error_report-in-None : goal.returns-in_ok-put_numbered_error_report-in-None
returns-in_ok-put_numbered_error_report-in-None c =
    let more = bad_said c.args.task c.args.number (codes "no hexadecimal") in
    let is : None ≡ _ = ap (option_map (λ v. v.items)) (sym c.in-None.is) ∙ c.in_ok-octets.ensures in
    let Says : Option (List ℕ) → Type 0 = λ o. SaysLine c.args.task c.args.dictionary.now c.args.number o more (Some false) in
    (more, c.in_ok-put_numbered_error_report-in-None.ensures, subst Says is (refl, refl))
