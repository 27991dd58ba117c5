use Rattle.dm_dict_text.specs.Printed.{next_value}
use Rattle.dm_dict_text.proofs.Lines.{line_pushed}
use Rattle.dm_dict_text.proofs.print.push_further_values.Goals as goal

pub loop-value-preserved : goal.loop-value-preserved
loop-value-preserved c =
    line_pushed next_value _ _ _ c.args.values.now c.loop-value.value-index c.value-item.result c.loop-value-test.true
    c.value-item.is c.loop-value.invariant c.in_ok-push_comma_and_value.ensures
