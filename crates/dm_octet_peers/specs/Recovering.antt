-- Two peers over octets, whatever happened before: they can be opened, and where nothing is under way they are joined.
use Rattle.std.specs.Prelude.{◌<◌, ◌^◌, ℕ, IsTrue, IfSome, List}
use Rattle.dm_peer.specs.declared.config.Config.{Config}
use Rattle.dm_peer.specs.declared.peer.Peer.{Peer}
use Rattle.dm_two_peers.specs.Links.{Side}
use Rattle.dm_two_peers.specs.Laws.{world_of}
use Rattle.dm_two_peers.specs.Worlds.{World}
use Rattle.dm_two_peers.specs.Happens.{Happening, run}
use Rattle.dm_two_peers.specs.Facts.{IsSoundWorld}
use Rattle.dm_two_peers.specs.Quiet.{is_quiet}
use Rattle.dm_two_peers.specs.Joining.{AreJoined}
use Rattle.dm_two_peers.specs.Recovering.{CanOpen}
use Rattle.dm_octet_peers.specs.Octets.{octet_peers}
use Rattle.dm_octet_peers.specs.Talking.{ArePaired, ArePeers}
use Rattle.dm_octet_peers.specs.Laws.{fresh_peer}

-- from each sound world of such peers a list of happenings opens both, with a Start of either side
abbrev pub EachOctetWorldCanOpen : Type 0
EachOctetWorldCanOpen =
    (w : World Peer (List ℕ)) → IsSoundWorld octet_peers w → ArePeers w → (s : Side) → CanOpen octet_peers w s

-- so it is after any list of happenings to two new peers
abbrev pub EachOctetRunCanOpen : Type 0
EachOctetRunCanOpen =
    (a b : Config) → ArePaired a b → a.first_id < 2 ^ 32 → b.first_id < 2 ^ 32 → (hs : List (Happening (List ℕ))) →
    IfSome (run octet_peers (world_of (fresh_peer a) (fresh_peer b)) hs)
    (λ r. (s : Side) → CanOpen octet_peers r.world s)

-- in each sound world of such peers in which nothing is under way they are joined
abbrev pub OctetQuietIsJoined : Type 0
OctetQuietIsJoined =
    (w : World Peer (List ℕ)) → IsSoundWorld octet_peers w → ArePeers w → IsTrue (is_quiet w) →
    AreJoined w.a.standing.core w.b.standing.core

-- so it is wherever a run of two new peers falls quiet
abbrev pub EachOctetQuietRunIsJoined : Type 0
EachOctetQuietRunIsJoined =
    (a b : Config) → ArePaired a b → a.first_id < 2 ^ 32 → b.first_id < 2 ^ 32 → (hs : List (Happening (List ℕ))) →
    IfSome (run octet_peers (world_of (fresh_peer a) (fresh_peer b)) hs)
    (λ r. IsTrue (is_quiet r.world) → AreJoined r.world.a.standing.core r.world.b.standing.core)
