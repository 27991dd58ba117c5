use Rattle.dm_octet_peers.proofs.Sized.{octets_are_sized}
use Rattle.dm_octet_peers.proofs.laws.octet_peers_send_no_empty_message.Goals as goal

pub returns : goal.returns
returns c = octets_are_sized
