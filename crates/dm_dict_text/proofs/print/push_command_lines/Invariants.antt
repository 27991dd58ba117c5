use Rattle.std.proofs.Common.{◌≡◌, ◌++◌, take}
use Rattle.std.specs.List.{flat_map}
use Rattle.dm_dict_text.specs.Printed.{command_line}
use Rattle.dm_dict_text.proofs.print.push_command_lines.Given as goal

abbrev pub invariant-loop-command : goal.invariant-loop-command
invariant-loop-command l = l.text.items ≡ l.fn.text.items ++ flat_map command_line (take l.command-index l.commands)
