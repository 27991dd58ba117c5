use Rattle.dm_dict_text.specs.Printed.{command_line}
use Rattle.dm_dict_text.proofs.Lines.{line_pushed}
use Rattle.dm_dict_text.proofs.print.push_command_lines.Goals as goal

pub loop-command-preserved : goal.loop-command-preserved
loop-command-preserved c =
    line_pushed command_line _ _ _ c.args.commands.now c.loop-command.command-index c.command-item.result
    c.loop-command-test.true c.command-item.is c.loop-command.invariant c.in_ok-push_command_line.ensures
