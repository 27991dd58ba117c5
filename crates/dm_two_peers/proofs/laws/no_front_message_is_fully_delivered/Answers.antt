use Rattle.std.proofs.Common.{Some, []}
use Rattle.dm_two_peers.specs.Laws.{world_of}
use Rattle.dm_two_peers.proofs.Cuts.{happening_cut, run_cut}
use Rattle.dm_two_peers.proofs.laws.no_front_message_is_fully_delivered.Goals as goal

pub returns-clause-step : goal.returns-clause-step
returns-clause-step g c = λ m sized w h good. happening_cut m sized w h good

pub returns-clause-run : goal.returns-clause-run
returns-clause-run g c =
    λ m sized a b hs. run_cut m sized (Some (record { world = world_of a b; put = [] })) hs (λ d l at. cc)
