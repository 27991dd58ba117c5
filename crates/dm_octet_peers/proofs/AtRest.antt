-- Two peers over octets that are Closed, with nothing under way, are at rest.
use Rattle.std.proofs.Common.{ℕ, List, refl}
use Rattle.dm_peer.specs.declared.peer.Peer.{Peer}
use Rattle.dm_two_peers.specs.Worlds.{World}
use Rattle.dm_two_peers.specs.Facts.{IsSoundWorld}
use Rattle.dm_two_peers.specs.Settled.{IsAtRest}
use Rattle.dm_octet_peers.specs.Octets.{octet_peers}
use Rattle.dm_octet_peers.specs.Talking.{ArePeers, octet_talks}
use Rattle.dm_octet_peers.specs.Laws.{AreClosed}

pub are_at_rest : (w : World Peer (List ℕ)) → IsSoundWorld octet_peers w → ArePeers w → AreClosed w →
    IsAtRest octet_peers (octet_talks w.a.config w.b.config) w
are_at_rest w sound peers closed =
    record {
      a = record { configured = refl; stands = peers.left };
      b = record { configured = refl; stands = peers.right };
      shaped_a = sound.own_shaped;
      shaped_b = sound.other_shaped;
      closed_a = closed.left;
      closed_b = closed.right;
      quiet = closed.quiet;
    }
