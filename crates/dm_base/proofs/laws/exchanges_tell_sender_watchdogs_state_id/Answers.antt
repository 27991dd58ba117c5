-- Each as it is proved for all nodes.
use Rattle.dm_base.proofs.Telling.{cer_tells, cea_tells, dwr_tells, dwa_tells}
use Rattle.dm_base.proofs.laws.exchanges_tell_sender_watchdogs_state_id.Goals as goal

pub returns-clause-cer : goal.returns-clause-cer
returns-clause-cer c = cer_tells

pub returns-clause-cea : goal.returns-clause-cea
returns-clause-cea c = cea_tells

pub returns-clause-dwr : goal.returns-clause-dwr
returns-clause-dwr c = dwr_tells

pub returns-clause-dwa : goal.returns-clause-dwa
returns-clause-dwa c = dwa_tells
