-- Two nodes, a neighbour of each: the two are what two peers are behind a run, whatever happens to the rest of either
-- node.
use Rattle.std.specs.Prelude.{◌≡◌, ◌⊎◌, ◌<◌, ◌^◌, ℕ, IsTrue, IsFalse, IfSome, Option, Some, List}
use Rattle.dm_machine.specs.declared.state_name.State.TheVariants.{Closed}
use Rattle.dm_machine.specs.Node.{Node, is_same_role}
use Rattle.dm_machine.specs.declared.phase.Role.{Role}
use Rattle.dm_peer.specs.declared.config.Config.{Config}
use Rattle.dm_peer.specs.declared.peer.Peer.{Peer}
use Rattle.dm_node.specs.Holding.{peer_at}
use Rattle.dm_node.specs.NodeHistory.{NodeStep, NodeBecame}
use Rattle.dm_two_peers.specs.Links.{Side, A, B}
use Rattle.dm_two_peers.specs.Worlds.{World, peer_on}
use Rattle.dm_two_peers.specs.Happens.{Happening, run}
use Rattle.dm_two_peers.specs.Laws.{world_of}
use Rattle.dm_two_peers.specs.Agreement.{IsOpenOn, AreOpposite, AreParting}
use Rattle.dm_two_peers.specs.Quiet.{is_quiet}
use Rattle.dm_octet_peers.specs.Octets.{octet_peers}
use Rattle.dm_octet_peers.specs.Talking.{ArePaired}
use Rattle.dm_octet_peers.specs.Laws.{fresh_peer}
use Rattle.dm_two_nodes.specs.Numbering.{IsOneToOne}
use Rattle.dm_two_nodes.specs.Renaming.{renumbered_peer}
use Rattle.dm_two_nodes.specs.Stories.{renumbered_story, node_story, side_story, gist}

-- a neighbour of a node, with all that has happened to the node
pub record Neighbour : Type 0 where
  pub past : List NodeStep
  pub peers : List (Option Peer)
  pub number : ℕ
  pub peer : Peer
  pub became : NodeBecame past peers
  pub there : peer_at peers number ≡ Some peer

-- in a run of two peers a side begins as the neighbour does, and what befalls it is, in gist, what befell the
-- neighbour, with other numbers of connections
pub record PlaysSide (f : ℕ → ℕ) (n : Neighbour) (s : Side) (w : World Peer (List ℕ))
    (hs : List (Happening (List ℕ))) : Type 0 where
  pub apart : IsOneToOne f
  pub begins : peer_on s w ≡ fresh_peer n.peer.config
  pub story : gist (fresh_peer n.peer.config) (node_story n.number n.past)
      ≡ renumbered_story f (gist (peer_on s w) (side_story s w hs))

-- then the neighbour is behind its history what the side is behind the run, but for these numbers
abbrev pub EachNeighbourIsItsSide : Type 0
EachNeighbourIsItsSide =
    (f : ℕ → ℕ) (n : Neighbour) (s : Side) (w : World Peer (List ℕ)) (hs : List (Happening (List ℕ))) →
    PlaysSide f n s w hs →
    IfSome (run octet_peers w hs) (λ r. n.peer ≡ renumbered_peer f (peer_on s r.world))

-- two new peers of the configurations of two neighbours
abbrev pub world_between : Neighbour → Neighbour → World Peer (List ℕ)
world_between n m = world_of (fresh_peer n.peer.config) (fresh_peer m.peer.config)

-- two neighbours, each of a node of its own, play the sides of one run, whatever else happened to their nodes
pub record MeetIn (f g : ℕ → ℕ) (n m : Neighbour) (hs : List (Happening (List ℕ))) : Type 0 where
  pub left : PlaysSide f n A (world_between n m) hs
  pub right : PlaysSide g m B (world_between n m) hs

-- neighbours that do so, of these configurations
pub record ArePlayed (f g : ℕ → ℕ) (a b : Config) (hs : List (Happening (List ℕ))) : Type 0 where
  pub near : Neighbour
  pub far : Neighbour
  pub near_config : near.peer.config ≡ a
  pub far_config : far.peer.config ≡ b
  pub meet : MeetIn f g near far hs

-- each run is played by two, whatever their numbers of connections
abbrev pub EachRunIsPlayed : Type 0
EachRunIsPlayed =
    (f g : ℕ → ℕ) (a b : Config) (hs : List (Happening (List ℕ))) → IsOneToOne f → IsOneToOne g →
    ArePlayed f g a b hs

-- the connections of two neighbours are links of the run: one link in opposite roles, or two links that are ending
pub record AreLinked (f g : ℕ → ℕ) (w : World Peer (List ℕ)) (role role' : Role) (c d : ℕ) : Type 0 where
  pub near : ℕ
  pub far : ℕ
  pub here : c ≡ f near
  pub there : d ≡ g far
  pub agreed : AreOpposite role role' near far ⊎ AreParting w near far

-- neither neighbour is open on two connections; if both are open, it is on one link in opposite roles, or each has a
-- disconnect coming to it
pub record NeighboursAgree (f g : ℕ → ℕ) (a b : Node) (w : World Peer (List ℕ)) : Type 0 where
  pub one_here : (r r' : Role) (c d : ℕ) → IsOpenOn a r c → IsOpenOn a r' d → c ≡ d
  pub one_there : (r r' : Role) (c d : ℕ) → IsOpenOn b r c → IsOpenOn b r' d → c ≡ d
  pub both : (r r' : Role) (c d : ℕ) → IsOpenOn a r c → IsOpenOn b r' d → AreLinked f g w r r' c d

-- whatever happens to the rest
abbrev pub TwoNodesAgree : Type 0
TwoNodesAgree =
    (f g : ℕ → ℕ) (n m : Neighbour) (hs : List (Happening (List ℕ))) → MeetIn f g n m hs →
    IfSome (run octet_peers (world_between n m) hs)
    (λ r. NeighboursAgree f g n.peer.standing.core m.peer.standing.core r.world)

-- both neighbours are Closed, or both are open on one link in opposite roles: I-Open against R-Open
pub data AreShutOrOpen (f g : ℕ → ℕ) (a b : Node) : Type 0 where
  both_are_shut : a.state ≡ Closed → b.state ≡ Closed → AreShutOrOpen f g a b
  both_are_open : (role role' : Role) (link : ℕ) → IsFalse (is_same_role role role') → IsOpenOn a role (f link) →
      IsOpenOn b role' (g link) → AreShutOrOpen f g a b

-- wherever the run falls quiet, whatever was lost and restarted, where the two are configured for each other
abbrev pub QuietNodesAreShutOrOpen : Type 0
QuietNodesAreShutOrOpen =
    (f g : ℕ → ℕ) (n m : Neighbour) (hs : List (Happening (List ℕ))) → MeetIn f g n m hs →
    ArePaired n.peer.config m.peer.config → n.peer.config.first_id < 2 ^ 32 → m.peer.config.first_id < 2 ^ 32 →
    IfSome (run octet_peers (world_between n m) hs)
    (λ r. IsTrue (is_quiet r.world) → AreShutOrOpen f g n.peer.standing.core m.peer.standing.core)
