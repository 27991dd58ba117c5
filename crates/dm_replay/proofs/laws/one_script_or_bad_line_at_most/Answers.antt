use Rattle.dm_replay.proofs.OneScripts.{one_script, one_bad_line, not_both, not_nothing}
use Rattle.dm_replay.proofs.laws.one_script_or_bad_line_at_most.Goals as goal

pub returns-clause-script : goal.returns-clause-script
returns-clause-script c = one_script

pub returns-clause-bad_line : goal.returns-clause-bad_line
returns-clause-bad_line c = one_bad_line c.joined_lines_have_joined_content.ensures

pub returns-clause-not_both : goal.returns-clause-not_both
returns-clause-not_both c = not_both c.joined_lines_have_joined_content.ensures

pub returns-clause-not_nothing : goal.returns-clause-not_nothing
returns-clause-not_nothing c = not_nothing c.joined_lines_have_joined_content.ensures
