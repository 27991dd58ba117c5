-- Two peers over octets can be opened after any list of happenings.
use Rattle.std.proofs.Common.{◌<◌, ◌^◌, ℕ, Option, Some, None, IfSome, List, [], ◌∷◌, refl}
use Rattle.std.proofs.lemmas.Option.{IfSome_then}
use Rattle.dm_wire.specs.declared.message.Header.{Header}
use Rattle.dm_peer.specs.declared.config.Config.{Config}
use Rattle.dm_peer.specs.declared.peer.Peer.{Peer}
use Rattle.dm_two_peers.specs.Follows.{IsMachine}
use Rattle.dm_two_peers.specs.Facts.{IsSoundWorld}
use Rattle.dm_two_peers.specs.Worlds.{World, After, DoneWith, Ignored, NoLink}
use Rattle.dm_two_peers.specs.Happens.{Happening, happens, world_after, RunEnd, ran_on, run_from, run}
use Rattle.dm_two_peers.specs.Laws.{ClosedIsSound, HappeningKeepsSound, world_of}
use Rattle.dm_two_peers.specs.Recovering.{EachWorldCanOpen, ResetKeepsPeer}
use Rattle.dm_octet_peers.specs.Octets.{octet_peers}
use Rattle.dm_octet_peers.specs.Talking.{ArePaired, ArePeers, octet_talks}
use Rattle.dm_octet_peers.specs.Laws.{OctetsAreElecting, FreshArePeers, HappeningKeepsPeers, fresh_peer}
use Rattle.dm_octet_peers.specs.Recovering.{EachOctetWorldCanOpen, EachOctetRunCanOpen, OctetQuietIsJoined, EachOctetQuietRunIsJoined}
use Rattle.dm_octet_peers.proofs.KeepingWorld.{fresh_stands, next_of}

reset_keeps_peer : (a b : Config) → ResetKeepsPeer octet_peers (octet_talks a b)
reset_keeps_peer a b s p is =
    record { configured = is.configured; stands = fresh_stands p.config p.standing.next (next_of p is.stands) }

pub world_can_open : EachWorldCanOpen Peer (List ℕ) Config Header → IsMachine octet_peers → OctetsAreElecting →
    EachOctetWorldCanOpen
world_can_open opens machine electing w sound peers s =
    let a = w.a.config in
    let b = w.b.config in
    opens octet_peers (octet_talks a b) machine (electing a b peers.paired) (reset_keeps_peer a b) w sound
    (record { configured = refl; stands = peers.left }) (record { configured = refl; stands = peers.right }) s

-- what is taken of the laws of happenings
pub record RunLaws : Type 0 where
  pub machine : IsMachine octet_peers
  pub closed : ClosedIsSound Peer (List ℕ)
  pub sounds : HappeningKeepsSound Peer (List ℕ)
  pub fresh : FreshArePeers
  pub keeps : HappeningKeepsPeers

-- a sound world of such peers
abbrev pub IsPeerWorld : World Peer (List ℕ) → Type 0
IsPeerWorld w = IsSoundWorld octet_peers w × ArePeers w

ran_good : (r : RunEnd Peer (List ℕ)) (o : After Peer (List ℕ)) → IsPeerWorld (world_after r.world o) →
    IfSome (ran_on r o) (λ z. IsPeerWorld z.world)
ran_good r (DoneWith next put) good = good
ran_good r Ignored good = good
ran_good r NoLink good = tt

run_good : RunLaws → (o : Option (RunEnd Peer (List ℕ))) (hs : List (Happening (List ℕ))) →
    IfSome o (λ r. IsPeerWorld r.world) → IfSome (run_from octet_peers o hs) (λ r. IsPeerWorld r.world)
run_good laws None hs good = tt
run_good laws (Some r) [] good = good
run_good laws (Some r) (h ∷ hs) good =
    run_good laws (ran_on r (happens octet_peers r.world h)) hs
    (ran_good r (happens octet_peers r.world h)
    (laws.sounds octet_peers laws.machine r.world h good.0, laws.keeps r.world h good.1))

-- after each run of two new peers
pub each_run_good : RunLaws → (a b : Config) → ArePaired a b → a.first_id < 2 ^ 32 → b.first_id < 2 ^ 32 →
    (hs : List (Happening (List ℕ))) →
    IfSome (run octet_peers (world_of (fresh_peer a) (fresh_peer b)) hs) (λ r. IsPeerWorld r.world)
each_run_good laws a b paired low_a low_b hs =
    run_good laws (Some (record { world = world_of (fresh_peer a) (fresh_peer b); put = [] })) hs
    (laws.closed octet_peers (fresh_peer a) (fresh_peer b) refl refl, laws.fresh a b paired low_a low_b)

pub run_can_open : RunLaws → EachOctetWorldCanOpen → EachOctetRunCanOpen
run_can_open laws opens a b paired low_a low_b hs =
    IfSome_then (run octet_peers (world_of (fresh_peer a) (fresh_peer b)) hs)
    (each_run_good laws a b paired low_a low_b hs) (λ r good s. opens r.world good.0 good.1 s)

pub run_is_joined : RunLaws → OctetQuietIsJoined → EachOctetQuietRunIsJoined
run_is_joined laws joined a b paired low_a low_b hs =
    IfSome_then (run octet_peers (world_of (fresh_peer a) (fresh_peer b)) hs)
    (each_run_good laws a b paired low_a low_b hs) (λ r good quiet. joined r.world good.0 good.1 quiet)
