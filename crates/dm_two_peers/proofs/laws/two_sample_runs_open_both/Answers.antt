use Rattle.dm_two_peers.proofs.KindLemmas.{two_runs_proof}
use Rattle.dm_two_peers.proofs.laws.two_sample_runs_open_both.Goals as goal

pub returns : goal.returns
returns c = two_runs_proof
