-- Where nothing is under way two peers that match their answers are both Closed, or both open on one link.
use Rattle.std.specs.Prelude.{◌≡◌, ℕ, Bool, IsTrue, IsFalse, IfSome, List}
use Rattle.dm_machine.specs.declared.state_name.State.TheVariants.{Closed}
use Rattle.dm_two_peers.specs.Machine.{Role, Node, is_same_role, closed_node}
use Rattle.dm_two_peers.specs.Links.{Side}
use Rattle.dm_two_peers.specs.Peers.{Peers}
use Rattle.dm_two_peers.specs.Worlds.{peer_on}
use Rattle.dm_two_peers.specs.Happens.{Happening, run}
use Rattle.dm_two_peers.specs.Follows.{IsMachine}
use Rattle.dm_two_peers.specs.Agreement.{IsOpenOn}
use Rattle.dm_two_peers.specs.Laws.{world_of}
use Rattle.dm_two_peers.specs.Quiet.{is_quiet}
use Rattle.dm_two_peers.specs.Joining.{is_returning}
use Rattle.dm_two_peers.specs.Requests.{Requests, AnswersMatch}

-- both are Closed, or both are open on one link in opposite roles: I-Open against R-Open
pub data AreClosedOrOpen (a b : Node) : Type 0 where
  both_closed : a.state ≡ Closed → b.state ≡ Closed → AreClosedOrOpen a b
  both_open : (role role' : Role) (c : ℕ) → IsFalse (is_same_role role role') → IsOpenOn a role c →
      IsOpenOn b role' c → AreClosedOrOpen a b

-- wherever a run of two closed peers falls quiet, whatever was lost and restarted, if one side at least didn't lose its
-- election to the other
abbrev pub EachQuietRunIsClosedOrOpen : Type 0 → Type 0 → Type 0
EachQuietRunIsClosedOrOpen P M =
    (m : Peers P M) (r : Requests P M) (stands : P → Bool) → IsMachine m → AnswersMatch m r stands → (a b : P) →
    m.node_of a ≡ closed_node → m.node_of b ≡ closed_node → IsTrue (stands a) → IsTrue (stands b) →
    (hs : List (Happening M)) →
    IfSome (run m (world_of a b) hs) (λ z. IsTrue (is_quiet z.world) → (s : Side) →
    IsFalse (is_returning (m.node_of (peer_on s z.world)).state) →
    AreClosedOrOpen (m.node_of z.world.a) (m.node_of z.world.b))
