-- The laws as they are proved for passages.
use Rattle.dm_flows.proofs.InOrder.{each_in_order, each_whole, each_found}
use Rattle.dm_flows.proofs.laws.octets_go_out_in_stream_order.Goals as goal

pub returns-clause-front : goal.returns-clause-front
returns-clause-front c = each_in_order

pub returns-clause-whole : goal.returns-clause-whole
returns-clause-whole c = each_whole

pub returns-clause-found : goal.returns-clause-found
returns-clause-found c = each_found
