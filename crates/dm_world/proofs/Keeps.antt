-- What holds of every world goes on, whatever happens.
use Rattle.std.proofs.Common.{◌≡◌, ℕ, List, sym, subst}
use Rattle.std.specs.Prelude.{Result, Ok, Err, IfOk, OnErr}
use Rattle.dm_peer.specs.declared.peer.Peer.{Peer}
use Rattle.dm_two_peers.specs.Follows.{IsMachine}
use Rattle.dm_two_peers.specs.Happens.{Happening, happens, world_after}
use Rattle.dm_two_peers.specs.Laws.{HappeningKeepsSound}
use Rattle.dm_two_peers.specs.Streams.{IsMeasured, HappeningKeepsCut}
use Rattle.dm_octet_peers.specs.Laws.{HappeningKeepsPeers}
use Rattle.dm_octet_peers.specs.Octets.{octet_peers}
use Rattle.dm_world.specs.declared.fault.Effect.{Effect}
use Rattle.dm_world.specs.declared.fault.WorldFault.{WorldFault}
use Rattle.dm_world.specs.Kept.{IsWorldKept}
use Rattle.dm_world.specs.Views.{OctetWorld, Effects}
use Rattle.dm_world.proofs.Named.{after_is}

-- the laws that it rests on
pub record KeepingLaws : Type 0 where
  pub machine : IsMachine octet_peers
  pub sound : HappeningKeepsSound Peer (List ℕ)
  pub peers : HappeningKeepsPeers
  pub cut : HappeningKeepsCut Peer (List ℕ)
  pub sized : IsMeasured octet_peers

kept_after : (w : OctetWorld) (h : Happening (List ℕ)) → KeepingLaws → IsWorldKept w →
    IsWorldKept (world_after w (happens octet_peers w h))
kept_after w h laws kept =
    record {
      sound = laws.sound octet_peers laws.machine w h kept.sound;
      peers = laws.peers w h kept.peers;
      cut = laws.cut octet_peers laws.sized w h kept.cut;
    }

pub kept_result : (r : Result Effect WorldFault) (h : Happening (List ℕ)) (w w' : OctetWorld) → KeepingLaws →
    IsWorldKept w → IfOk r (λ outcome. Effects outcome (happens octet_peers w h) w w') → OnErr r (w' ≡ w) →
    IsWorldKept w'
kept_result (Ok outcome) h w w' laws kept step still =
    subst (λ (v : OctetWorld). IsWorldKept v) (after_is outcome (happens octet_peers w h) w w' step)
    (kept_after w h laws kept)
kept_result (Err f) h w w' laws kept step still = subst (λ (v : OctetWorld). IsWorldKept v) (sym still) kept
