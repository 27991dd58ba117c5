-- Each as it is proved for all nodes.
use Rattle.dm_base.proofs.Good.{good_error}
use Rattle.dm_base.proofs.Own.{kind_cer, kind_cea, kind_dwr, kind_dwa, kind_dpr, kind_dpa}
use Rattle.dm_base.proofs.laws.built_messages_are_good_and_as_meant.Goals as goal

pub returns-clause-cer : goal.returns-clause-cer
returns-clause-cer c = kind_cer

pub returns-clause-cea : goal.returns-clause-cea
returns-clause-cea c = kind_cea

pub returns-clause-dwr : goal.returns-clause-dwr
returns-clause-dwr c = kind_dwr

pub returns-clause-dwa : goal.returns-clause-dwa
returns-clause-dwa c = kind_dwa

pub returns-clause-dpr : goal.returns-clause-dpr
returns-clause-dpr c = kind_dpr

pub returns-clause-dpa : goal.returns-clause-dpa
returns-clause-dpa c = kind_dpa

pub returns-clause-error : goal.returns-clause-error
returns-clause-error c = good_error
