use Rattle.dm_dict_text.specs.Printed.{vendor_line}
use Rattle.dm_dict_text.proofs.Lines.{line_pushed}
use Rattle.dm_dict_text.proofs.print.push_vendor_lines.Goals as goal

pub loop-vendor-preserved : goal.loop-vendor-preserved
loop-vendor-preserved c =
    line_pushed vendor_line _ _ _ c.args.vendors.now c.loop-vendor.vendor-index c.vendor-item.result
    c.loop-vendor-test.true c.vendor-item.is c.loop-vendor.invariant c.in_ok-push_vendor_line.ensures
