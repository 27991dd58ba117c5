use Rattle.dm_octet_peers.proofs.Joining.{octet_quiet_is_joined}
use Rattle.dm_octet_peers.proofs.laws.quiet_octet_peers_are_closed_or_joined.Goals as goal

pub returns : goal.returns
returns c =
    octet_quiet_is_joined c.quiet_peers_are_closed_or_joined.ensures c.paired_octet_peers_hear_and_elect.ensures
