use Rattle.dm_machine.proofs.RowLemmas.{has_one_row_each}
use Rattle.dm_machine.proofs.laws.no_state_and_event_have_two_rows.Goals as goal

pub returns : goal.returns
returns c = has_one_row_each
