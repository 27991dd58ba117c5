use Rattle.std.proofs.Common.{inr, ◌+◌, ◌++◌, ◌∷◌, [], ℕ, List, length-append, ap, sym, ◌∙◌, refl, subst}
use Rattle.dm_text.specs.Lines.{content}
use Rattle.dm_replay.specs.LinesSoFar.{TellSoFar}
use Rattle.dm_replay.proofs.Ends.{lines-next, broken, broken_off}
use Rattle.dm_replay.proofs.script_lines.read_script_lines_if_any.Goals as goal

pub returns-then-not-branch-clause-fault : goal.returns-then-not-branch-clause-fault
returns-then-not-branch-clause-fault c =
    let before = c.loop-line.invariant.0 in
    let stands = c.loop-line.invariant.3 in
    inr (
      c.loop-line.count + 1,
      refl,
      broken c.args.text.now c.in-Some.line.now c.loop-line.line-iterator c.next.new.self before
          c.loop-line.so_far.hosts c.loop-line.so_far.list.items c.loop-line.count
          c.loop-line.invariant.1 c.in-Some.ensures.steps c.loop-line.invariant.2 stands
          (c.in_ok-take_line.ensures.stands c.if-not-branch.true)
          (c.in_ok-take_line.ensures.refused c.if-not-branch.true (content before) stands),
    )

pub loop-line-preserved : goal.loop-line-preserved
loop-line-preserved c =
    let before = c.loop-line.invariant.0 in
    let new = c.take_line.new.self in
    let After : List (List ℕ) → Type 0 = λ v. TellSoFar v new.hosts new.list.items in (
      before ++ c.in-Some.line.now ∷ [],
      lines-next c.args.text.now c.in-Some.line.now c.loop-line.line-iterator c.next.new.self before
          c.loop-line.invariant.1 c.in-Some.ensures.steps,
      ap (λ n. n + 1) c.loop-line.invariant.2 ∙ sym (length-append before (c.in-Some.line.now ∷ [])),
      subst After (sym (c.joined_lines_have_joined_content.ensures before (c.in-Some.line.now ∷ [])))
          (c.in_ok-take_line.ensures.taken c.if-not-branch.false (content before) c.loop-line.invariant.3),
    )

pub returns-in-One-clause-fault : goal.returns-in-One-clause-fault
returns-in-One-clause-fault c =
    inr (
      c.loop-line.count,
      refl,
      broken_off c.args.text.now c.loop-line.line-iterator c.loop-line.invariant.0 c.loop-line.so_far.hosts
          c.in-One.field-0 c.loop-line.so_far.list.items c.loop-line.count
          c.loop-line.invariant.1 c.in-None.ensures.steps.0 c.loop-line.invariant.2 c.in-One.is c.loop-line.invariant.3,
    )
