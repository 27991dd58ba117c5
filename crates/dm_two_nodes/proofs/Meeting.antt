-- Neighbours of two nodes that play the sides of one run are what the sides are, and agree as they do.
use Rattle.std.proofs.Common.{◌≡◌, ℕ, Option, Some, None, List, [], refl, sym, ap, subst, ◌∙◌}
use Rattle.std.specs.Prelude.{IfSome, IsTrue}
use Rattle.dm_machine.specs.declared.connection.Conn.{Conn}
use Rattle.dm_machine.specs.declared.phase.Role.{Role}
use Rattle.dm_machine.specs.Node.{Node, held_as}
use Rattle.dm_machine.specs.Moves.{is_open}
use Rattle.dm_peer.specs.declared.config.Config.{Config}
use Rattle.dm_peer.specs.declared.peer.Peer.{Peer}
use Rattle.dm_peer.specs.Settled.{IsSettled}
use Rattle.dm_peer.specs.Steps.{EachEventIsOneStep}
use Rattle.dm_two_peers.specs.Machine.{conn}
use Rattle.dm_two_peers.specs.Links.{Side, A, B}
use Rattle.dm_two_peers.specs.Worlds.{World, peer_on}
use Rattle.dm_two_peers.specs.Happens.{Happening, RunEnd, run}
use Rattle.dm_two_peers.specs.Follows.{IsMachine}
use Rattle.dm_two_peers.specs.Laws.{Promised, EachRunIsPromised}
use Rattle.dm_two_peers.specs.Agreement.{IsOpenOn, Agreed}
use Rattle.dm_two_peers.specs.ClosedOrOpen.{AreClosedOrOpen, both_closed, both_open}
use Rattle.dm_two_peers.specs.Quiet.{is_quiet}
use Rattle.dm_octet_peers.specs.Octets.{octet_peers}
use Rattle.dm_octet_peers.specs.Laws.{fresh_peer}
use Rattle.dm_octet_peers.specs.Matching.{EachOctetQuietRunIsClosedOrOpen}
use Rattle.dm_two_nodes.specs.Numbering.{renumbered_node}
use Rattle.dm_two_nodes.specs.Renaming.{renumbered_peer, PeersGoByNoNumber}
use Rattle.dm_two_nodes.specs.Stories.{node_story, side_story, gist}
use Rattle.dm_two_nodes.specs.Meeting.{Neighbour, PlaysSide, EachNeighbourIsItsSide, world_between, NeighboursAgree, TwoNodesAgree, AreShutOrOpen, both_are_shut, both_are_open, QuietNodesAreShutOrOpen}
use Rattle.dm_two_nodes.proofs.Renumbered.{renumbered_new, held_as-renumbered}
use Rattle.dm_two_nodes.proofs.Behind.{peer_behind, behind_renumbered}
use Rattle.dm_two_nodes.proofs.Neighbours.{neighbour_is}
use Rattle.dm_two_nodes.proofs.Sides.{side_is}
use Rattle.dm_two_nodes.proofs.Gists.{StoryLaws, gist_is}

module _ (numbers : PeersGoByNoNumber) (step : EachEventIsOneStep) (laws : StoryLaws) where
  fresh_settled : (c : Config) → IsSettled (fresh_peer c)
  fresh_settled c = laws.fresh c c.first_id

  plays : (f : ℕ → ℕ) (n : Neighbour) (s : Side) (w : World Peer (List ℕ)) (hs : List (Happening (List ℕ)))
      (r : RunEnd Peer (List ℕ)) → PlaysSide f n s w hs → run octet_peers w hs ≡ Some r →
      n.peer ≡ renumbered_peer f (peer_on s r.world)
  plays f n s w hs r part is =
      let first = fresh_peer n.peer.config in
      let own = node_story n.number n.past in
      let theirs = side_story s w hs in
      sym (neighbour_is step n.past n.peers n.number n.peer n.became n.there).0
      ∙ sym (gist_is laws first own (fresh_settled n.peer.config))
      ∙ ap (peer_behind first) part.story
      ∙ behind_renumbered numbers f part.apart first (gist (peer_on s w) theirs)
      ∙ ap (λ (p : Peer). renumbered_peer f (peer_behind p (gist (peer_on s w) theirs))) (sym part.begins)
      ∙ ap (renumbered_peer f) (gist_is laws (peer_on s w) theirs
      (subst IsSettled (sym part.begins) (fresh_settled n.peer.config)))
      ∙ ap (renumbered_peer f) (sym (side_is (record { world = w; put = [] }) hs r s is))

  each_is_by : (f : ℕ → ℕ) (n : Neighbour) (s : Side) (w : World Peer (List ℕ)) (hs : List (Happening (List ℕ)))
      (o : Option (RunEnd Peer (List ℕ))) → PlaysSide f n s w hs → run octet_peers w hs ≡ o →
      IfSome o (λ r. n.peer ≡ renumbered_peer f (peer_on s r.world))
  each_is_by f n s w hs None part is = tt
  each_is_by f n s w hs (Some r) part is = plays f n s w hs r part is

  pub each_neighbour_is_its_side : EachNeighbourIsItsSide
  each_neighbour_is_its_side f n s w hs part = each_is_by f n s w hs (run octet_peers w hs) part refl

-- where a node is open under other numbers
pub record WasOpen (f : ℕ → ℕ) (n : Node) (role : Role) (c : ℕ) : Type 0 where
  pub link : ℕ
  pub is : c ≡ f link
  pub opened : IsOpenOn n role link

number_of : (a b : ℕ) → Some (conn a) ≡ Some (conn b) → b ≡ a
number_of a b e = let same : conn a ≡ conn b = cc e in ap (λ (c : Conn). c.0) (sym same)

was_held : (f : ℕ → ℕ) (n : Node) (role : Role) (c : ℕ) (o : Option Conn) → held_as role n.held ≡ o →
    renumbered_new f o ≡ Some (conn c) → IsTrue (is_open n.state) → WasOpen f n role c
was_held f n role c None is to opened = cc
was_held f n role c (Some d) is to opened =
    record { link = d.0; is = number_of (f d.0) c to; opened = record { is_open = opened; holds = is } }

was_open : (f : ℕ → ℕ) (n : Node) (role : Role) (c : ℕ) → IsOpenOn (renumbered_node f n) role c → WasOpen f n role c
was_open f n role c stands =
    was_held f n role c (held_as role n.held) refl (sym (held_as-renumbered f role n.held) ∙ stands.holds) stands.is_open

stays_open : (f : ℕ → ℕ) (n : Node) (role : Role) (c : ℕ) → IsOpenOn n role c →
    IsOpenOn (renumbered_node f n) role (f c)
stays_open f n role c stands =
    record {
      is_open = stands.is_open;
      holds = held_as-renumbered f role n.held ∙ ap (renumbered_new f) stands.holds;
    }

module _ (f g : ℕ → ℕ) (w : World Peer (List ℕ)) where
  agrees : Agreed octet_peers w →
      NeighboursAgree f g (renumbered_node f w.a.standing.core) (renumbered_node g w.b.standing.core) w
  agrees agreed =
      record {
        one_here = λ r r' c d x y.
            let u = was_open f w.a.standing.core r c x in
            let v = was_open f w.a.standing.core r' d y in
            u.is ∙ ap f (agreed.one_a r r' u.link v.link u.opened v.opened) ∙ sym v.is;
        one_there = λ r r' c d x y.
            let u = was_open g w.b.standing.core r c x in
            let v = was_open g w.b.standing.core r' d y in
            u.is ∙ ap g (agreed.one_b r r' u.link v.link u.opened v.opened) ∙ sym v.is;
        both = λ r r' c d x y.
            let u = was_open f w.a.standing.core r c x in
            let v = was_open g w.b.standing.core r' d y in
            record {
              near = u.link;
              far = v.link;
              here = u.is;
              there = v.is;
              agreed = agreed.both r r' u.link v.link u.opened v.opened;
            };
      }

  shut_or_open : (a b : Node) → AreClosedOrOpen a b → AreShutOrOpen f g (renumbered_node f a) (renumbered_node g b)
  shut_or_open a b (both_closed x y) = both_are_shut x y
  shut_or_open a b (both_open role role' link apart x y) =
      both_are_open role role' link apart (stays_open f a role link x) (stays_open g b role' link y)

-- what holds of the nodes of the sides, renumbered, holds of the neighbours
carried : (f g : ℕ → ℕ) (n m : Neighbour) (w : World Peer (List ℕ)) (P : Node → Node → Type 0) →
    n.peer ≡ renumbered_peer f w.a → m.peer ≡ renumbered_peer g w.b →
    P (renumbered_node f w.a.standing.core) (renumbered_node g w.b.standing.core) →
    P n.peer.standing.core m.peer.standing.core
carried f g n m w P left right holds =
    subst (λ (p : Peer). P p.standing.core m.peer.standing.core) (sym left)
    (subst (λ (q : Peer). P (renumbered_node f w.a.standing.core) q.standing.core) (sym right) holds)

module _ (sides : EachNeighbourIsItsSide) where
  agree_by : (f g : ℕ → ℕ) (n m : Neighbour) (o : Option (RunEnd Peer (List ℕ))) →
      IfSome o (λ r. n.peer ≡ renumbered_peer f r.world.a) → IfSome o (λ r. m.peer ≡ renumbered_peer g r.world.b) →
      IfSome o (λ r. Promised octet_peers r.world) →
      IfSome o (λ r. NeighboursAgree f g n.peer.standing.core m.peer.standing.core r.world)
  agree_by f g n m None left right promised = tt
  agree_by f g n m (Some r) left right promised =
      carried f g n m r.world (λ a b. NeighboursAgree f g a b r.world) left right
      (agrees f g r.world promised.agreed)

  pub two_nodes_agree : IsMachine octet_peers → EachRunIsPromised Peer (List ℕ) → TwoNodesAgree
  two_nodes_agree machine law f g n m hs meet =
      let w = world_between n m in
      agree_by f g n m (run octet_peers w hs) (sides f n A w hs meet.left) (sides g m B w hs meet.right)
      (law octet_peers machine (fresh_peer n.peer.config) (fresh_peer m.peer.config) refl refl hs)

  quiet_by : (f g : ℕ → ℕ) (n m : Neighbour) (o : Option (RunEnd Peer (List ℕ))) →
      IfSome o (λ r. n.peer ≡ renumbered_peer f r.world.a) → IfSome o (λ r. m.peer ≡ renumbered_peer g r.world.b) →
      IfSome o (λ r. IsTrue (is_quiet r.world) → AreClosedOrOpen r.world.a.standing.core r.world.b.standing.core) →
      IfSome o (λ r. IsTrue (is_quiet r.world) → AreShutOrOpen f g n.peer.standing.core m.peer.standing.core)
  quiet_by f g n m None left right law = tt
  quiet_by f g n m (Some r) left right law =
      λ quiet.
      carried f g n m r.world (AreShutOrOpen f g) left right
      (shut_or_open f g r.world r.world.a.standing.core r.world.b.standing.core (law quiet))

  pub quiet_nodes_are_shut_or_open : EachOctetQuietRunIsClosedOrOpen → QuietNodesAreShutOrOpen
  quiet_nodes_are_shut_or_open law f g n m hs meet paired first second =
      let w = world_between n m in
      quiet_by f g n m (run octet_peers w hs) (sides f n A w hs meet.left) (sides g m B w hs meet.right)
      (law n.peer.config m.peer.config paired first second hs)
