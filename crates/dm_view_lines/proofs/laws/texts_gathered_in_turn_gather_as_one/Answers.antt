use Rattle.dm_view_lines.proofs.Settling.{gathers_all, gathers_front}
use Rattle.dm_view_lines.proofs.Turning.{gathers-none, gathers-then, leaves-none, leaves-then}
use Rattle.dm_view_lines.proofs.laws.texts_gathered_in_turn_gather_as_one.Goals as goal

pub returns-clause-nothing : goal.returns-clause-nothing
returns-clause-nothing c = gathers-none

pub returns-clause-turns : goal.returns-clause-turns
returns-clause-turns c = gathers-then

pub returns-clause-writes : goal.returns-clause-writes
returns-clause-writes c = gathers_all

pub returns-clause-fails : goal.returns-clause-fails
returns-clause-fails c = gathers_front

pub returns-clause-leaves_nothing : goal.returns-clause-leaves_nothing
returns-clause-leaves_nothing c = leaves-none

pub returns-clause-leaves : goal.returns-clause-leaves
returns-clause-leaves c = leaves-then
