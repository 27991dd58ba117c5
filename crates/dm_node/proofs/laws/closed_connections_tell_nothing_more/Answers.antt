-- The law as it is proved for tellings and orders.
use Rattle.dm_node.proofs.NodeEnds.{close_is_last, gone_is_silent, gone_tells_nothing, gone_keeps_nothing}
use Rattle.dm_node.proofs.laws.closed_connections_tell_nothing_more.Goals as goal

pub returns-clause-close : goal.returns-clause-close
returns-clause-close c = λ policy d e s t turn h is. close_is_last policy turn.arrived d e s t turn.answer h is

pub returns-clause-order : goal.returns-clause-order
returns-clause-order c = gone_is_silent

pub returns-clause-octets : goal.returns-clause-octets
returns-clause-octets c = λ policy d s t turn none h. gone_tells_nothing policy turn.arrived d s t turn.answer none h

pub returns-clause-piece : goal.returns-clause-piece
returns-clause-piece c = gone_keeps_nothing
