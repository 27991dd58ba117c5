use Rattle.dm_machine.proofs.OpeningLaw.{accepted, initiated, asked}
use Rattle.dm_machine.proofs.laws.ceas_open_and_cers_go_at_acks.Goals as goal

pub returns : goal.returns
returns c =
    record {
      accepted = accepted;
      initiated = initiated;
      asked = asked;
    }
