use Rattle.dm_view_lines.proofs.SomeSaid.{some_styled}
use Rattle.dm_view_lines.proofs.laws.lines_always_have_a_report.Goals as goal

pub returns : goal.returns
returns c = some_styled c.octets_spell_message_or_have_fault.ensures
