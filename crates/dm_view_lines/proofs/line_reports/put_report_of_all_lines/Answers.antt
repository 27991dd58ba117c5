use Rattle.std.proofs.Common.{◌≡◌, ◌≤◌, ◌+◌, ◌++◌, ◌∷◌, [], length-append, append_assoc, arith, ap, sym, ◌∙◌, subst, map}
use Rattle.std.specs.Str.Lines.{lines}
use Rattle.dm_view_lines.specs.declared.tally.Tally.{Tally}
use Rattle.dm_view_lines.specs.Counts.{tallied, tally_of}
use Rattle.dm_view_lines.specs.Digits.{octets_of_line}
use Rattle.dm_view_lines.specs.Lines.{SaysLines}
use Rattle.dm_view_lines.proofs.Steps.{says-next, says-all, line_counts, lines-next, counted}
use Rattle.dm_view_lines.proofs.line_reports.put_report_of_all_lines.Goals as goal

pub overflow_add-number : goal.overflow_add-number
overflow_add-number c =
    let inv = c.loop-line.invariant in
    let most = line_counts c.lines_exceed_octets_by_one_at_most.ensures c.args.input.now c.in-Some.line.now
    c.loop-line.line-iterator c.next.new.self inv.0 inv.1 c.in-Some.ensures.steps in
    omega (arith, most, inv.2)

pub loop-line-preserved : goal.loop-line-preserved
loop-line-preserved c =
    let inv = c.loop-line.invariant in
    let said = c.in_ok-verdict.ensures in
    let line = c.in-Some.line.now in
    let verdict = c.in_ok-verdict.verdict in
    let tally = c.loop-line.tally in
    let Fits : Tally → Type 0 = λ t. t.good + t.bad ≤ c.loop-line.number + 1 in
    let with_is : c.with_verdict-tally.result ≡ tallied tally (tally_of verdict) = c.with_verdict-tally.ensures in (
      inv.0 ++ line ∷ [],
      lines-next c.args.input.now line c.loop-line.line-iterator c.next.new.self inv.0 inv.1 c.in-Some.ensures.steps,
      ap (λ n. n + 1) inv.2 ∙ sym (length-append inv.0 (line ∷ [])),
      subst Fits (sym with_is) (counted tally verdict c.loop-line.number inv.3),
      inv.4 ++ said.0,
      said.1 ∙ ap (λ v. v ++ said.0) inv.5 ∙ append_assoc _ inv.4 said.0,
      λ more others later.
          let All : Tally → Type 0 = λ t. SaysLines c.args.task c.args.dictionary.now 1 (lines c.args.input.now)
          ((inv.4 ++ said.0) ++ more) (tallied t others) in
          subst All (sym with_is)
          (says-next c.args.task c.args.dictionary.now (map octets_of_line (lines c.args.input.now))
          (map octets_of_line (lines c.loop-line.line-iterator)) (map octets_of_line (lines c.next.new.self))
          (c.loop-line.number + 1) (octets_of_line line) inv.4 said.0 verdict tally
          (ap (map octets_of_line) c.in-Some.ensures.steps) said.2 inv.6 more others later),
    )

pub returns : goal.returns
returns c =
    let inv = c.loop-line.invariant in (
      inv.4,
      inv.5,
      says-all c.args.task c.args.dictionary.now (map octets_of_line (lines c.args.input.now))
          (map octets_of_line (lines c.loop-line.line-iterator)) (c.loop-line.number + 1) inv.4 c.loop-line.tally
          (ap (map octets_of_line) c.in-None.ensures.steps.0) inv.6,
    )
