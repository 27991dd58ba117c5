-- The DATA chunks of a packet are looked at one behind the other.
use Rattle.std.proofs.Common.{refl}
use Rattle.dm_associations.specs.Exchanges.{ChunkBeginsExchange}
use Rattle.dm_flows.specs.Sctps.{data_seen, HasData, HasNoData}
use Rattle.dm_associations.proofs.Chunks.{begins_here, begins_later, begins_behind, begins_nowhere}
use Rattle.dm_associations.proofs.exchange.any_chunk_begins_exchange_request.Goals as goal

pub returns-then-chunk_begins_exchange_request : goal.returns-then-chunk_begins_exchange_request
returns-then-chunk_begins_exchange_request c =
    let has : HasData c.chunks.chunk-iterator (data_seen c.in-Some.chunk) c.next.new.self = c.in-Some.ensures.steps in
    let begins = c.if-chunk_begins_exchange_request.ensures.0 refl in
    ((λ _. c.chunks.invariant.1 (begins_here c.packets_have_one_data_list.ensures.some _ _ c.next.new.self has begins)), (λ _. refl))

pub chunks-preserved : goal.chunks-preserved
chunks-preserved c =
    let has : HasData c.chunks.chunk-iterator (data_seen c.in-Some.chunk) c.next.new.self = c.in-Some.ensures.steps in
    let not : ChunkBeginsExchange (data_seen c.in-Some.chunk) → ⊥ =
    λ begins. let no = c.if-chunk_begins_exchange_request.ensures.1 begins in cc in (
      (λ begins. begins_behind c.packets_have_one_data_list.ensures.one c.packets_have_one_data_list.ensures.some _ _ c.next.new.self has not
          (c.chunks.invariant.0 begins)),
      (λ begins. c.chunks.invariant.1 (begins_later _ _ c.next.new.self has begins)),
    )

pub returns : goal.returns
returns c =
    let none : HasNoData c.chunks.chunk-iterator = c.in-None.ensures.steps.0 in
    ((λ no. cc), (λ begins. absurd (begins_nowhere c.packets_have_one_data_list.ensures.one _ none (c.chunks.invariant.0 begins))))
