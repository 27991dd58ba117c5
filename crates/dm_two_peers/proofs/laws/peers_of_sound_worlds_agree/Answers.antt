use Rattle.dm_two_peers.proofs.Promise.{promised_proof}
use Rattle.dm_two_peers.proofs.laws.peers_of_sound_worlds_agree.Goals as goal

pub returns : goal.returns
returns g c = λ m w good. promised_proof m w good
