-- By the state machine's law of strangers.
use Rattle.dm_peer.proofs.Strangers.{strangers}
use Rattle.dm_peer.proofs.laws.strangers_change_nothing.Goals as goal

pub returns : goal.returns
returns c = strangers c.only_good_cers_admit_strangers.ensures
