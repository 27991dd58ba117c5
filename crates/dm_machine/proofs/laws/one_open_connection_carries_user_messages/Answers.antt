use Rattle.dm_machine.proofs.UpwardLaw.{submits, hands_up, hands_up_each, one_open}
use Rattle.dm_machine.proofs.laws.one_open_connection_carries_user_messages.Goals as goal

pub returns : goal.returns
returns c = record { submits = submits; up = hands_up; each = hands_up_each; one = one_open }
