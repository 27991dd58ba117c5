-- Why a run stops, from why something can't be said or written.
use Rattle.dm_view_lines.specs.declared.put_fault.PutFault.{PutFault}
use Rattle.dm_view_lines.specs.declared.put_fault.PutFault.TheVariants as put
use Rattle.dm_view_lines.specs.declared.run_fault.RunFault.{RunFault}
use Rattle.dm_view_lines.specs.declared.run_fault.RunFault.TheVariants as run

abbrev pub run_fault : PutFault → RunFault
run_fault put.Memory = run.Memory
run_fault (put.TooLong number) = run.TooLong number
run_fault (put.Write error) = run.Write error
