-- Two peers over octets are joined where nothing is under way: the one that wins isn't in Wait-Returns.
use Rattle.std.proofs.Common.{◌≡◌, ℕ, Bool, true, false, not, List, refl, inl, inr}
use Rattle.std.proofs.lemmas.Bool.{cases_Bool}
use Rattle.dm_peer.specs.declared.peer.Peer.{Peer}
use Rattle.dm_peer.specs.Configs.{wins}
use Rattle.dm_two_peers.specs.Links.{A, B}
use Rattle.dm_two_peers.specs.Joining.{QuietIsJoined}
use Rattle.dm_octet_peers.specs.Octets.{octet_peers}
use Rattle.dm_octet_peers.specs.Laws.{OctetsAreElecting}
use Rattle.dm_octet_peers.specs.Recovering.{OctetQuietIsJoined}
use Rattle.dm_octet_peers.proofs.Returning.{not_lost}

pub other_wins : (a b : Bool) → a ≡ not b → a ≡ false → b ≡ true
other_wins a true e h = refl
other_wins a false e h = cc

pub octet_quiet_is_joined : QuietIsJoined Peer (List ℕ) → OctetsAreElecting → OctetQuietIsJoined
octet_quiet_is_joined joined electing w sound peers quiet =
    let a = w.a.config in
    let b = w.b.config in
    elim (cases_Bool (wins a)) [
      | inl won ↦ joined octet_peers w sound quiet A
          (not_lost w.a.standing.core.state (wins a) peers.left_returns won)
      | inr lost ↦ joined octet_peers w sound quiet B
          (not_lost w.b.standing.core.state (wins b) peers.right_returns
          (other_wins (wins a) (wins b) (electing a b peers.paired).one_wins lost))
    ]
