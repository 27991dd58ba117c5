-- What stands at a front.
use Rattle.dm_capture.proofs.One.{one_item}
use Rattle.dm_capture.proofs.Faults.{item_or_fault}
use Rattle.dm_capture.proofs.Parts.{item_or_part}
use Rattle.dm_capture.proofs.Alone.{one_fault, part_or_fault}
use Rattle.dm_capture.proofs.laws.fronts_hold_one_item_part_or_fault.Goals as goal

pub returns-clause-item : goal.returns-clause-item
returns-clause-item c = one_item

pub returns-clause-part : goal.returns-clause-part
returns-clause-part c = item_or_part

pub returns-clause-fault : goal.returns-clause-fault
returns-clause-fault c = item_or_fault

pub returns-clause-either : goal.returns-clause-either
returns-clause-either c = part_or_fault

pub returns-clause-one : goal.returns-clause-one
returns-clause-one c = one_fault
