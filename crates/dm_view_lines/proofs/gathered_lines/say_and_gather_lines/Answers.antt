use Rattle.std.proofs.Common.{◌∷◌, [], ◌++◌, ap, sym, ◌∙◌, subst}
use Rattle.std.specs.Str.Lines.{lines}
use Rattle.dm_view_lines.proofs.Turning.{handed_on, tells-none, tells_next, tells_end, breaks_at}
use Rattle.dm_view_lines.proofs.gathered_lines.say_and_gather_lines.Goals as goal

pub loop-line-init : goal.loop-line-init
loop-line-init g c = record {
  before = [];
  lines_are = ap lines (sym (c.into_iter-line-iterator.ensures.into_iter_gives ∙ c.new-line-items.ensures));
  told = tells-none _ _ _ _ _ _;
  goes = c.requires.going;
}

pub returns-in_err-number-clause-stopped : goal.returns-in_err-number-clause-stopped
returns-in_err-number-clause-stopped g c =
    handed_on _ _ c.in_err-number.field-0.0 c.from_residual.ensures.1
    (breaks_at _ _ _ _ _ _ _ _ _ _ _ _ _ _ _ _ _ _ c.loop-line.invariant.lines_are c.in-Some.ensures.steps
    c.loop-line.invariant.told c.in_err-number.ensures.stopped)

pub returns-then-not-going-clause-told : goal.returns-then-not-going-clause-told
returns-then-not-going-clause-told g c =
    tells_end _ _ _ _ _ _ _ _ _ _ _ _ _ _ _ _ _ _ _ _ c.loop-line.invariant.lines_are c.in-Some.ensures.steps
    c.loop-line.invariant.told c.in_ok-number.ensures.told c.if-not-going.true

pub loop-line-preserved : goal.loop-line-preserved
loop-line-preserved g c =
    let next = tells_next _ _ _ _ _ _ _ _ _ _ _ _ _ _ _ _ _ _ _ _ c.loop-line.invariant.lines_are
    c.in-Some.ensures.steps c.loop-line.invariant.told c.in_ok-number.ensures.told c.if-not-going.false in
    record {
      before = c.loop-line.invariant.before ++ c.in-Some.line.now ∷ [];
      lines_are = next.0;
      told = next.1;
      goes = subst (g.S.Speaker.goes c.say_and_gather_line.new.speaker) c.if-not-going.false c.in_ok-number.ensures.goes;
    }
