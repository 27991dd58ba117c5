use Rattle.std.proofs.Common.{ap, subst}
use Rattle.dm_view_lines.specs.Came.{goes_further}
use Rattle.dm_view_lines.proofs.Readings.{so_more, so_end, so_enough, so_breaks, end_breaks, so_failed, on_given, handed_to}
use Rattle.dm_view_lines.proofs.buffered_lines.say_reader_lines.Goals as goal

pub returns-in_err-say_and_consume_lines_at_hand-clause-stopped : goal.returns-in_err-say_and_consume_lines_at_hand-clause-stopped
returns-in_err-say_and_consume_lines_at_hand-clause-stopped g c =
    handed_to _ _ _ c.from_residual.ensures.1
    (so_breaks _ _ _ _ _ _ _ _ _ _ _ _ _ _ c.loop.invariant.so c.in_err-say_and_consume_lines_at_hand.ensures.stopped)

pub returns-in_err-going-in-End-clause-stopped : goal.returns-in_err-going-in-End-clause-stopped
returns-in_err-going-in-End-clause-stopped g c =
    let so = so_more _ _ _ _ _ _ _ _ _ _ _ _ _ _ _ _ _ c.loop.invariant.so c.in_ok-say_and_consume_lines_at_hand.ensures.told
    (λ _. c.in_ok-say_and_consume_lines_at_hand.ensures.one_line)
    (ap goes_further c.in-End.is) in
    handed_to _ _ _ c.from_residual-in_err-going-in-End.ensures.1
    (end_breaks _ _ _ _ _ _ _ _ _ _ _ _ _ so
    (on_given _ _ _ _ c.loop.invariant.so.read (c.in_ok-say_and_consume_lines_at_hand.ensures.end c.in-End.is))
    c.in_err-going-in-End.ensures.stopped)

pub returns-in-End-clause-told : goal.returns-in-End-clause-told
returns-in-End-clause-told g c =
    let so = so_more _ _ _ _ _ _ _ _ _ _ _ _ _ _ _ _ _ c.loop.invariant.so c.in_ok-say_and_consume_lines_at_hand.ensures.told
    (λ _. c.in_ok-say_and_consume_lines_at_hand.ensures.one_line)
    (ap goes_further c.in-End.is) in
    so_end _ _ _ _ _ _ _ _ _ _ _ _ _ _ _ so
    (on_given _ _ _ _ c.loop.invariant.so.read (c.in_ok-say_and_consume_lines_at_hand.ensures.end c.in-End.is))
    c.in_ok-going-in-End.ensures.told

pub returns-in-Enough-clause-told : goal.returns-in-Enough-clause-told
returns-in-Enough-clause-told g c =
    so_enough _ _ _ _ _ _ _ _ _ _ _ _ _ _ _ _ _ c.loop.invariant.so c.in_ok-say_and_consume_lines_at_hand.ensures.told
    (ap goes_further c.in-Enough.is)

pub returns-in-Failed-clause-stopped : goal.returns-in-Failed-clause-stopped
returns-in-Failed-clause-stopped g c =
    so_failed _ _ _ _ _ _ _ _ _ _ _
    (so_more _ _ _ _ _ _ _ _ _ _ _ _ _ _ _ _ _ c.loop.invariant.so c.in_ok-say_and_consume_lines_at_hand.ensures.told
    (λ _. c.in_ok-say_and_consume_lines_at_hand.ensures.one_line)
    (ap goes_further c.in-Failed.is))

pub loop-preserved : goal.loop-preserved
loop-preserved g c = record {
  so = so_more _ _ _ _ _ _ _ _ _ _ _ _ _ _ _ _ _ c.loop.invariant.so c.in_ok-say_and_consume_lines_at_hand.ensures.told
      (λ _. c.in_ok-say_and_consume_lines_at_hand.ensures.one_line)
      (ap goes_further c.in-More.is);
  goes = subst (g.S.Speaker.goes c.say_and_consume_lines_at_hand.new.speaker) (ap goes_further c.in-More.is)
      c.in_ok-say_and_consume_lines_at_hand.ensures.goes;
  none = c.in_ok-say_and_consume_lines_at_hand.ensures.none;
}
