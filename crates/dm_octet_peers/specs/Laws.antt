-- What two peers over octets come to.
use Rattle.std.specs.Prelude.{◌≡◌, ◌<◌, ◌^◌, ℕ, IsTrue, IfSome, List}
use Rattle.dm_machine.specs.declared.state_name.State.TheVariants.{Closed}
use Rattle.dm_peer.specs.declared.config.Config.{Config}
use Rattle.dm_peer.specs.declared.peer.Peer.{Peer}
use Rattle.dm_peer.specs.After.{fresh_standing}
use Rattle.dm_two_peers.specs.Laws.{world_of}
use Rattle.dm_two_peers.specs.Worlds.{World}
use Rattle.dm_two_peers.specs.Happens.{Happening, happens, world_after, run}
use Rattle.dm_two_peers.specs.Facts.{IsSoundWorld}
use Rattle.dm_two_peers.specs.Quiet.{is_quiet, is_clean}
use Rattle.dm_two_peers.specs.Electing.{IsElecting}
use Rattle.dm_two_peers.specs.Settled.{IsSettledRun}
use Rattle.dm_two_peers.specs.Falling.{CanFallQuiet, FallsQuiet}
use Rattle.dm_two_peers.specs.Streams.{IsMeasured}
use Rattle.dm_octet_peers.specs.Octets.{octet_peers}
use Rattle.dm_octet_peers.specs.Talking.{ArePaired, ArePeers, octet_talks}

-- one of two that are configured for each other wins, and each reads the other's CER and CEA as good ones
abbrev pub OctetsAreElecting : Type 0
OctetsAreElecting = (a b : Config) → ArePaired a b → IsElecting octet_peers (octet_talks a b)

-- a new peer of a configuration
abbrev pub fresh_peer : Config → Peer
fresh_peer c = record { config = c; standing = fresh_standing c.first_id }

-- two new peers that are configured for each other are peers as these laws ask for them, and whatever happens keeps
-- it so
abbrev pub FreshArePeers : Type 0
FreshArePeers =
    (a b : Config) → ArePaired a b → a.first_id < 2 ^ 32 → b.first_id < 2 ^ 32 →
    ArePeers (world_of (fresh_peer a) (fresh_peer b))

abbrev pub HappeningKeepsPeers : Type 0
HappeningKeepsPeers =
    (w : World Peer (List ℕ)) (h : Happening (List ℕ)) → ArePeers w →
    ArePeers (world_after w (happens octet_peers w h))

-- both are Closed, and nothing is under way
pub record AreClosed (w : World Peer (List ℕ)) : Type 0 where
  pub left : w.a.standing.core.state ≡ Closed
  pub right : w.b.standing.core.state ≡ Closed
  pub quiet : IsTrue (is_quiet w)

-- what each clean run of them comes to
abbrev pub EachOctetRunSettles : Type 0
EachOctetRunSettles =
    (w : World Peer (List ℕ)) → IsSoundWorld octet_peers w → ArePeers w → AreClosed w
    → (hs : List (Happening (List ℕ))) →
    IsTrue (is_clean hs) →
    IfSome (run octet_peers w hs) (λ r. IsSettledRun octet_peers (octet_talks w.a.config w.b.config) w hs r)

-- each clean run of them falls quiet, in whatever order things come
abbrev pub EachOctetRunFallsQuiet : Type 0
EachOctetRunFallsQuiet =
    (w : World Peer (List ℕ)) → IsSoundWorld octet_peers w → ArePeers w → AreClosed w
    → (hs : List (Happening (List ℕ))) →
    IsTrue (is_clean hs) →
    IfSome (run octet_peers w hs) (λ r. FallsQuiet octet_peers (octet_talks w.a.config w.b.config) w hs r)

-- and can do so within nine steps in all, with both open then on the connection that is kept
abbrev pub EachOctetRunCanFallQuiet : Type 0
EachOctetRunCanFallQuiet =
    (w : World Peer (List ℕ)) → IsSoundWorld octet_peers w → ArePeers w → AreClosed w
    → (hs : List (Happening (List ℕ))) →
    IsTrue (is_clean hs) →
    IfSome (run octet_peers w hs) (λ r. CanFallQuiet octet_peers (octet_talks w.a.config w.b.config) w hs)

-- every message that is sent has octets
abbrev pub OctetsAreSized : Type 0
OctetsAreSized = IsMeasured octet_peers
