use Rattle.std.proofs.Common.{◌↔◌}
use Rattle.dm_associations.specs.Exchanges.{ChunksBeginExchange}
use Rattle.dm_associations.proofs.exchange.any_chunk_begins_exchange_request.Given as goal

-- an exchange begins among all where one begins among the rest
abbrev pub invariant-chunks : goal.invariant-chunks
invariant-chunks l = ChunksBeginExchange l.fn.octets ↔ ChunksBeginExchange l.chunk-iterator
