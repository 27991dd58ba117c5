use Rattle.dm_dict_text.specs.Printed.{avp_line}
use Rattle.dm_dict_text.proofs.Lines.{line_pushed}
use Rattle.dm_dict_text.proofs.print.push_avp_lines.Goals as goal

pub loop-avp-preserved : goal.loop-avp-preserved
loop-avp-preserved c =
    line_pushed avp_line _ _ _ c.args.avps.now c.loop-avp.avp-index c.avp-item.result c.loop-avp-test.true c.avp-item.is
    c.loop-avp.invariant c.in_ok-push_avp_line.ensures
