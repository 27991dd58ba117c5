-- What two peers agree on.
use Rattle.std.specs.Prelude.{◌≡◌, ◌⊎◌, ◌↔◌, ℕ, IsTrue, IsFalse, Some, slice_get}
use Rattle.dm_two_peers.specs.Machine.{conn, Role, Node, held_as, is_same_role, is_open, tie_of, is_tie_held}
use Rattle.dm_two_peers.specs.Links.{Side, A, B, LinkPending, LinkUp, Open, Coming, Link}
use Rattle.dm_two_peers.specs.Peers.{Peers}
use Rattle.dm_two_peers.specs.Worlds.{World, peer_on}
use Rattle.dm_two_peers.specs.Happens.{own_view}

-- open on a connection, as the one that it holds in a role: the first one, and a node of the right shape holds no other
pub record IsOpenOn (n : Node) (role : Role) (c : ℕ) : Type 0 where
  pub is_open : IsTrue (is_open n.state)
  pub holds : held_as role n.held ≡ Some (conn c)

-- a disconnect is coming to a side on a link
pub record HasComingDisconnect {P M : Type 0} (w : World P M) (c : ℕ) (s : Side) : Type 0 where
  pub link : Link M
  pub there : slice_get w.links c ≡ Some link
  pub coming : (own_view s link).incoming.mark ≡ Coming

-- on one link in opposite roles
pub record AreOpposite (role role' : Role) (c d : ℕ) : Type 0 where
  pub same : c ≡ d
  pub opposite : IsFalse (is_same_role role role')

-- on two links, with a disconnect coming to each
pub record AreParting {P M : Type 0} (w : World P M) (c d : ℕ) : Type 0 where
  pub apart : c ≡ d → ⊥
  pub to_a : HasComingDisconnect w c A
  pub to_b : HasComingDisconnect w d B

-- neither side is open on two connections; if both are open, it is on one in opposite roles, or each has a disconnect
-- coming to it
pub record Agreed {P M : Type 0} (m : Peers P M) (w : World P M) : Type 0 where
  pub one_a : (r r' : Role) (c d : ℕ) → IsOpenOn (m.node_of w.a) r c → IsOpenOn (m.node_of w.a) r' d → c ≡ d
  pub one_b : (r r' : Role) (c d : ℕ) → IsOpenOn (m.node_of w.b) r c → IsOpenOn (m.node_of w.b) r' d → c ≡ d
  pub both : (r r' : Role) (c d : ℕ) → IsOpenOn (m.node_of w.a) r c → IsOpenOn (m.node_of w.b) r' d →
      AreOpposite r r' c d ⊎ AreParting w c d

-- a side's open ends are the connections of its set, pending links left out; a cancelled link is in none
abbrev pub EndsAreHeld : {P M : Type 0} → Peers P M → World P M → Type 0
EndsAreHeld {P} {M} m w =
    (s : Side) (c : ℕ) (l : Link M) → slice_get w.links c ≡ Some l → (l.phase ≡ LinkPending → ⊥) →
    ((own_view s l).own ≡ Open) ↔ IsTrue (is_tie_held (tie_of (m.node_of (peer_on s w)) c))

-- each connection of a side's set is a link that is up, or a pending one that the side opened
pub record IsLinkOf {P M : Type 0} (w : World P M) (s : Side) (c : ℕ) : Type 0 where
  pub link : Link M
  pub there : slice_get w.links c ≡ Some link
  pub stands : (link.phase ≡ LinkUp) ⊎ ((link.phase ≡ LinkPending) × (link.opener ≡ s))

abbrev pub HeldAreLinks : {P M : Type 0} → Peers P M → World P M → Type 0
HeldAreLinks m w = (s : Side) (c : ℕ) → IsTrue (is_tie_held (tie_of (m.node_of (peer_on s w)) c)) → IsLinkOf w s c

-- where a node is open on a link, the other side's end is open or a disconnect is coming to the node
pub record IsMatched {P M : Type 0} (w : World P M) (s : Side) (c : ℕ) : Type 0 where
  pub link : Link M
  pub there : slice_get w.links c ≡ Some link
  pub up : link.phase ≡ LinkUp
  pub matched : ((own_view s link).other ≡ Open) ⊎ ((own_view s link).incoming.mark ≡ Coming)

abbrev pub OpenIsMatched : {P M : Type 0} → Peers P M → World P M → Type 0
OpenIsMatched m w = (s : Side) (r : Role) (c : ℕ) → IsOpenOn (m.node_of (peer_on s w)) r c → IsMatched w s c
