use Rattle.dm_octet_peers.proofs.Machine.{octets_follow}
use Rattle.dm_octet_peers.proofs.laws.octet_peers_move_as_the_machine.Goals as goal

pub returns : goal.returns
returns c = octets_follow c.done_events_are_steps_or_drops.ensures
