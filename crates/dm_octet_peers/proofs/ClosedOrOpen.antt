-- Where a run of two peers over octets falls quiet both are Closed, or both open on one link.
use Rattle.std.proofs.Common.{◌≡◌, ◌<◌, ◌^◌, ℕ, true, false, Option, None, Some, IfSome, List, refl, inl, inr}
use Rattle.std.proofs.lemmas.Bool.{cases_Bool, and_from}
use Rattle.std.proofs.lemmas.Option.{IfSome_then}
use Rattle.dm_peer.specs.declared.config.Config.{Config}
use Rattle.dm_peer.specs.declared.peer.Peer.{Peer}
use Rattle.dm_peer.specs.Configs.{wins}
use Rattle.dm_two_peers.specs.Links.{Side, A, B}
use Rattle.dm_two_peers.specs.Worlds.{World, peer_on}
use Rattle.dm_two_peers.specs.Happens.{run}
use Rattle.dm_two_peers.specs.Laws.{world_of}
use Rattle.dm_two_peers.specs.Joining.{is_returning}
use Rattle.dm_two_peers.specs.ClosedOrOpen.{EachQuietRunIsClosedOrOpen}
use Rattle.dm_octet_peers.specs.Octets.{octet_peers}
use Rattle.dm_octet_peers.specs.Talking.{ArePeers}
use Rattle.dm_octet_peers.specs.Laws.{OctetsAreElecting, fresh_peer}
use Rattle.dm_octet_peers.specs.Matching.{octet_requests, is_matching, OctetAnswersMatch, EachOctetQuietRunIsClosedOrOpen}
use Rattle.dm_octet_peers.proofs.KeepingWorld.{fresh_stands, is_below}
use Rattle.dm_octet_peers.proofs.Returning.{not_lost}
use Rattle.dm_octet_peers.proofs.Joining.{other_wins}
use Rattle.dm_octet_peers.proofs.CanOpen.{RunLaws, each_run_good}

-- one of the two didn't lose its election to the other
one_won : OctetsAreElecting → (w : World Peer (List ℕ)) → ArePeers w →
    (s : Side) × (is_returning (peer_on s w).standing.core.state ≡ false)
one_won electing w peers =
    let a = w.a.config in
    let b = w.b.config in
    elim (cases_Bool (wins a)) [
      | inl won ↦ (A, not_lost w.a.standing.core.state (wins a) peers.left_returns won)
      | inr lost ↦ (
        B,
        not_lost w.b.standing.core.state (wins b) peers.right_returns
            (other_wins (wins a) (wins b) (electing a b peers.paired).one_wins lost),
      )
    ]

fresh_matches : (c : Config) → c.first_id < 2 ^ 32 → is_matching (fresh_peer c) ≡ true
fresh_matches c low = and_from _ true (fresh_stands c c.first_id (is_below low)) refl

both_some : {X : Type 0} (F G : X → Type 0) (o : Option X) → IfSome o F → IfSome o G → IfSome o (λ x. F x × G x)
both_some F G None f g = tt
both_some F G (Some x) f g = (f, g)

pub run_is_closed_or_open : EachQuietRunIsClosedOrOpen Peer (List ℕ) → RunLaws → OctetsAreElecting →
    OctetAnswersMatch → EachOctetQuietRunIsClosedOrOpen
run_is_closed_or_open settles laws electing match a b paired low_a low_b hs =
    IfSome_then (run octet_peers (world_of (fresh_peer a) (fresh_peer b)) hs)
    (both_some _ _ (run octet_peers (world_of (fresh_peer a) (fresh_peer b)) hs)
    (each_run_good laws a b paired low_a low_b hs)
    (settles octet_peers octet_requests is_matching laws.machine match (fresh_peer a) (fresh_peer b) refl refl
    (fresh_matches a low_a) (fresh_matches b low_b) hs))
    (λ r both quiet.
    let won = one_won electing r.world both.0.1 in
    both.1 quiet won.0 won.1)
