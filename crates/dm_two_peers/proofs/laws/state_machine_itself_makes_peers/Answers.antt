use Rattle.dm_two_peers.proofs.KindLemmas.{kinds_are_a_machine_proof}
use Rattle.dm_two_peers.proofs.laws.state_machine_itself_makes_peers.Goals as goal

pub returns : goal.returns
returns c = kinds_are_a_machine_proof
