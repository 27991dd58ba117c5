-- The laws as they are proved for streams.
use Rattle.dm_flows.proofs.FlowInOrder.{each_stream_in_order, each_stream_whole}
use Rattle.dm_flows.proofs.laws.messages_are_a_front_of_their_stream.Goals as goal

pub returns-clause-front : goal.returns-clause-front
returns-clause-front c = each_stream_in_order

pub returns-clause-whole : goal.returns-clause-whole
returns-clause-whole c = each_stream_whole
