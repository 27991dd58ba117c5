-- What holds of every world, whatever happened to it.
use Rattle.dm_two_peers.specs.Facts.{IsSoundWorld}
use Rattle.dm_two_peers.specs.Streams.{AreCut}
use Rattle.dm_octet_peers.specs.Octets.{octet_peers}
use Rattle.dm_octet_peers.specs.Talking.{ArePeers}
use Rattle.dm_world.specs.Views.{OctetWorld}

-- its links are sound, its peers are configured for each other, and fewer octets are delivered of a front message than
-- it has
pub record IsWorldKept (w : OctetWorld) : Type 0 where
  pub sound : IsSoundWorld octet_peers w
  pub peers : ArePeers w
  pub cut : AreCut octet_peers w
