use Rattle.dm_machine.proofs.OpeningLaw.{closed, alone, last}
use Rattle.dm_machine.proofs.laws.given_up_is_closed_unnamed_stays_unheld.Goals as goal

pub returns : goal.returns
returns c =
    record {
      closed = closed;
      alone = alone;
      last = last;
    }
