use Rattle.std.proofs.Common.{◌≡◌, ◌++◌, take}
use Rattle.std.specs.List.{flat_map}
use Rattle.dm_dict_text.specs.Printed.{avp_line}
use Rattle.dm_dict_text.proofs.print.push_avp_lines.Given as goal

abbrev pub invariant-loop-avp : goal.invariant-loop-avp
invariant-loop-avp l = l.text.items ≡ l.fn.text.items ++ flat_map avp_line (take l.avp-index l.avps)
