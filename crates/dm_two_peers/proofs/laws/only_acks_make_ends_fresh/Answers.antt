use Rattle.dm_two_peers.proofs.MakesEnds.{makes_ends}
use Rattle.dm_two_peers.proofs.laws.only_acks_make_ends_fresh.Goals as goal

pub returns : goal.returns
returns g c = λ m w h s d fresh. makes_ends m w h s d fresh
