use Rattle.dm_two_peers.proofs.Returning.{winner_does_not_return_proof}
use Rattle.dm_two_peers.proofs.laws.winners_never_enter_wait_returns.Goals as goal

pub returns : goal.returns
returns c = winner_does_not_return_proof
