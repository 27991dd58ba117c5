-- What is listed at the top are the faults of the message.
use Rattle.std.proofs.Common.{map, ap}
use Rattle.dm_dict.specs.Locating.{told_at, path_of}
use Rattle.dm_dict.proofs.Listed.{under_done, handed_ok}
use Rattle.dm_dict.proofs.Paths.{found_at_top}
use Rattle.dm_dict.proofs.located_faults.collect_located_faults.Goals as goal

pub returns-clause-all : goal.returns-clause-all
returns-clause-all c =
    handed_ok c.add_message_faults_if_bad-done.result c.add_message_faults_if_bad-done.new.findings.located _ _ c.and.ensures
    (under_done c.add_message_faults_if_bad-done.result
    (λ all l lists. found_at_top (path_of c.top-top.result) (map told_at c.empty-findings.result.located.items) _ _
    c.top-top.ensures.none (ap (map told_at) c.empty-findings.ensures.located) (all l lists))
    c.add_message_faults_if_bad-done.ensures.all)
