use Rattle.std.proofs.Common.{[]}
use Rattle.dm_view_lines.specs.declared.put_fault.PutFault.TheVariants.{Memory}
use Rattle.dm_view_lines.proofs.Turning.{handed_on, breaks-none}
use Rattle.dm_view_lines.proofs.lines_in_pieces.say_and_gather_held_line.Goals as goal

pub returns-in_err-extend_from_slice-clause-stopped : goal.returns-in_err-extend_from_slice-clause-stopped
returns-in_err-extend_from_slice-clause-stopped g c =
    handed_on _ _ Memory c.from_residual.ensures.1 (breaks-none _ _ _ _ _ [] Memory _ _ tt)
