use Rattle.dm_machine.proofs.CauseLaw.{each_hold}
use Rattle.dm_machine.proofs.laws.acked_taken_and_open_connections_have_causes.Goals as goal

pub returns : goal.returns
returns c = each_hold
