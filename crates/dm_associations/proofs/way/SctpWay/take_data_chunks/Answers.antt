-- The DATA chunks of a packet are taken one behind the other.
use Rattle.std.proofs.Common.{◌∷◌, [], ◌++◌, append-nil, subst, List}
use Rattle.dm_flows.specs.Sctps.{SeenData, data_seen, HasData, HasNoData, AreData}
use Rattle.dm_associations.proofs.Chunks.{taken_next, before_next, on_err}
use Rattle.dm_associations.proofs.way.SctpWay.take_data_chunks.Goals as goal

pub chunks-preserved : goal.chunks-preserved
chunks-preserved c =
    let so_far = c.chunks.invariant in
    let has : HasData c.chunks.chunk-iterator (data_seen c.in-Some.chunk) c.next.new.self = c.in-Some.ensures.steps in
    record {
      taken = so_far.taken ++ data_seen c.in-Some.chunk ∷ [];
      are = before_next c.args.octets.now so_far.taken c.chunks.chunk-iterator _ c.next.new.self so_far.are has;
      takes = taken_next c.args.self.now c.chunks.self c.take_chunk.new.self so_far.taken _ so_far.takes
          c.in_ok-take_chunk.ensures.taken;
    }

pub returns-in_err-take_chunk-clause-left : goal.returns-in_err-take_chunk-clause-left
returns-in_err-take_chunk-clause-left c =
    let so_far = c.chunks.invariant in
    let has : HasData c.chunks.chunk-iterator (data_seen c.in-Some.chunk) c.next.new.self = c.in-Some.ensures.steps in
    let later = c.packets_have_one_data_list.ensures.some c.next.new.self in
    on_err c.from_residual.result _ (record {
      taken = so_far.taken;
      chunk = data_seen c.in-Some.chunk;
      later = later.0;
      are = so_far.are (data_seen c.in-Some.chunk ∷ later.0) (c.next.new.self, has, later.1);
      mid = c.chunks.self;
      takes = so_far.takes;
      leaves = c.in_err-take_chunk.ensures.left;
      others = c.in_err-take_chunk.ensures.others;
    })

pub returns-clause-taken : goal.returns-clause-taken
returns-clause-taken c =
    let so_far = c.chunks.invariant in
    let none : HasNoData c.chunks.chunk-iterator = c.in-None.ensures.steps.0 in
    record {
      chunks = so_far.taken;
      are = subst (λ (l : List SeenData). AreData c.args.octets.now l) (append-nil so_far.taken) (so_far.are [] none);
      takes = so_far.takes;
    }
