use Rattle.dm_view_lines.proofs.JoinedSaid.{joined_said}
use Rattle.dm_view_lines.proofs.laws.joined_inputs_are_reported_in_turn.Goals as goal

pub returns : goal.returns
returns c = joined_said
