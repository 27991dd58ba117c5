-- What is listed without paths are the faults of the message.
use Rattle.std.proofs.Common.{ap, ◌∙◌}
use Rattle.dm_tables.specs.Tables.{defined}
use Rattle.dm_dict.specs.Listing.{all_told}
use Rattle.dm_dict.proofs.Listed.{under_done, handed_ok}
use Rattle.dm_dict.proofs.Located.{located_are_faults, found_without_paths}
use Rattle.dm_dict.proofs.faults.collect_faults.Goals as goal

pub returns-clause-all : goal.returns-clause-all
returns-clause-all c =
    handed_ok c.add_message_faults_if_bad-done.result c.add_message_faults_if_bad-done.new.findings.faults _ _ c.and.ensures
    (under_done c.add_message_faults_if_bad-done.result
    (λ all l lists. found_without_paths (all_told c.empty-findings.result.faults.items) _ _
    (ap all_told c.empty-findings.ensures.faults) (all l lists)
    ∙ located_are_faults (defined c.args.dictionary.now.tables) (record { header = c.args.header.now; avps = l }))
    c.add_message_faults_if_bad-done.ensures.all)
