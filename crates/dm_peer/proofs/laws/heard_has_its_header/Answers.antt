use Rattle.dm_peer.proofs.Headers.{heard_header}
use Rattle.dm_peer.proofs.laws.heard_has_its_header.Goals as goal

pub returns : goal.returns
returns c = heard_header
