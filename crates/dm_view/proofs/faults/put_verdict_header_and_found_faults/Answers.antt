use Rattle.std.proofs.Common.{append_assoc}
use Rattle.dm_view.specs.Check.{check_view}
use Rattle.dm_view.proofs.faults.put_verdict_header_and_found_faults.Goals as goal

pub returns-clause-shown : goal.returns-clause-shown
unfolding check_view
returns-clause-shown c l same =
    rw (c.in_ok-put_fault_lines.ensures, c.in_ok-put_header_line.ensures, c.in_ok-good.ensures.shown, same) (simp append_assoc)
