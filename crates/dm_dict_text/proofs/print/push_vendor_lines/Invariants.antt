use Rattle.std.proofs.Common.{◌≡◌, ◌++◌, take}
use Rattle.std.specs.List.{flat_map}
use Rattle.dm_dict_text.specs.Printed.{vendor_line}
use Rattle.dm_dict_text.proofs.print.push_vendor_lines.Given as goal

abbrev pub invariant-loop-vendor : goal.invariant-loop-vendor
invariant-loop-vendor l = l.text.items ≡ l.fn.text.items ++ flat_map vendor_line (take l.vendor-index l.vendors)
