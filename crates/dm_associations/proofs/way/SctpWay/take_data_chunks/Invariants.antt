use Rattle.std.proofs.Common.{List}
use Rattle.dm_associations.proofs.Chunks.{AreBefore}
use Rattle.dm_associations.specs.Ways.{WayTakesChunks}
use Rattle.dm_flows.specs.Sctps.{SeenData}
use Rattle.dm_associations.proofs.way.SctpWay.take_data_chunks.Given as goal

-- these chunks were taken so far
abbrev pub invariant-chunks : goal.invariant-chunks
invariant-chunks l = record {
  taken : List SeenData;
  are : AreBefore l.fn.octets taken l.chunk-iterator;
  takes : WayTakesChunks l.fn.self taken l.self;
}
