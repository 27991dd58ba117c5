use Rattle.std.proofs.Common.{◌+◌, codes, ◌++◌, ◌∷◌, [], ℕ, List, length-append, ap, sym, ◌∙◌, subst, arith}
use Rattle.std.specs.Fmt.{decimal}
use Rattle.dm_text.specs.Lines.{content}
use Rattle.dm_tool.specs.Progress.{BuiltSoFar}
use Rattle.dm_tool.proofs.Refusals.{line_counts, lines-next, built_up_to}
use Rattle.dm_tool.proofs.build.build_text.Goals as goal

pub overflow_add-before : goal.overflow_add-before
overflow_add-before c =
    let most = line_counts c.lines_exceed_octets_by_one_at_most.ensures c.args.input.now c.in-Some.line.now
    c.loop-line.line-iterator c.next.new.self
    c.loop-line.invariant.0 c.loop-line.invariant.1 c.in-Some.ensures.steps in
    omega (arith, most, c.loop-line.invariant.2)

pub overflow_add-before-in-loop-line : goal.overflow_add-before-in-loop-line
overflow_add-before-in-loop-line c =
    let most = line_counts c.lines_exceed_octets_by_one_at_most.ensures c.args.input.now c.in-Some.line.now
    c.loop-line.line-iterator c.next.new.self
    c.loop-line.invariant.0 c.loop-line.invariant.1 c.in-Some.ensures.steps in
    omega (arith, most, c.loop-line.invariant.2)

pub returns-then-not-branch-clause-built : goal.returns-then-not-branch-clause-built
returns-then-not-branch-clause-built c =
    let refused = c.in_ok-take_line.ensures.refused c.if-not-branch.true in
    let kept = c.in_ok-take_line.ensures.kept c.if-not-branch.true in
    built_up_to c.args.input.now c.in-Some.line.now c.loop-line.line-iterator c.next.new.self
    c.loop-line.building.text.items c.push_syntax_fault_line.new.text.items c.loop-line.building.good
    c.loop-line.building.last
    c.loop-line.building.avps.items
    c.loop-line.invariant.0
    (c.loop-line.before + 1) c.loop-line.invariant.1 c.in-Some.ensures.steps c.loop-line.invariant.3 refused.0 refused.1
    (ap (λ n. n + 1) c.loop-line.invariant.2)
    (c.in_ok-push_syntax_fault_line.ensures
    ∙ ap (λ t. t ++ codes "fault syntax " ++ decimal (c.loop-line.before + 1) ++ 10 ∷ [])
    (c.into_text_before_last_message-text.ensures ∙ ap (λ b. b.text.items) kept))

pub loop-line-preserved : goal.loop-line-preserved
loop-line-preserved c =
    let Lines : List
    (List ℕ) →
    Type 0 = λ v. BuiltSoFar v c.take_line.new.self.last c.take_line.new.self.avps.items
    c.take_line.new.self.text.items
    c.take_line.new.self.good in (
      c.loop-line.invariant.0 ++ c.in-Some.line.now ∷ [],
      lines-next c.args.input.now c.in-Some.line.now c.loop-line.line-iterator c.next.new.self c.loop-line.invariant.0
          c.loop-line.invariant.1 c.in-Some.ensures.steps,
      ap (λ n. n + 1) c.loop-line.invariant.2 ∙ sym (length-append c.loop-line.invariant.0 (c.in-Some.line.now ∷ [])),
      subst Lines (sym (c.joined_lines_have_joined_content.ensures c.loop-line.invariant.0 (c.in-Some.line.now ∷ [])))
          (c.in_ok-take_line.ensures.taken c.if-not-branch.false (content c.loop-line.invariant.0)
          c.loop-line.invariant.3),
    )
