use Rattle.dm_two_peers.proofs.Bare.{bare_at}
use Rattle.dm_two_peers.proofs.laws.only_up_links_carry_anything.Goals as goal

pub returns : goal.returns
returns g c = bare_at
