use Rattle.dm_two_peers.proofs.TalkLemmas.{two_talks_proof}
use Rattle.dm_two_peers.proofs.laws.sample_clean_runs_settle_as_elected.Goals as goal

pub returns : goal.returns
returns c = two_talks_proof
