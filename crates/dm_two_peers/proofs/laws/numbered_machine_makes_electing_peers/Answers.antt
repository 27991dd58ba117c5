use Rattle.dm_two_peers.proofs.TalkLemmas.{talkers_are_electing_proof}
use Rattle.dm_two_peers.proofs.laws.numbered_machine_makes_electing_peers.Goals as goal

pub returns : goal.returns
returns c = talkers_are_electing_proof
