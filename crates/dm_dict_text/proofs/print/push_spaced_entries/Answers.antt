use Rattle.dm_dict_text.specs.Printed.{entry_text}
use Rattle.dm_dict_text.proofs.Lines.{line_pushed}
use Rattle.dm_dict_text.proofs.print.push_spaced_entries.Goals as goal

pub loop-entry-preserved : goal.loop-entry-preserved
loop-entry-preserved c =
    line_pushed entry_text _ _ _ c.args.entries.now c.loop-entry.entry-index c.entry-item.result c.loop-entry-test.true
    c.entry-item.is c.loop-entry.invariant c.in_ok-push_spaced_entry.ensures
