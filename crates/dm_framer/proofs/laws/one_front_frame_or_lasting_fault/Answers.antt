-- What stands at a front.
use Rattle.dm_framer.proofs.Fronts.{one_frame}
use Rattle.dm_framer.proofs.Framings.{fault_front, frame_or_fault}
use Rattle.dm_framer.proofs.laws.one_front_frame_or_lasting_fault.Goals as goal

pub returns-clause-frame : goal.returns-clause-frame
returns-clause-frame c = one_frame

pub returns-clause-either : goal.returns-clause-either
returns-clause-either c = frame_or_fault

pub returns-clause-fault : goal.returns-clause-fault
returns-clause-fault c = fault_front
