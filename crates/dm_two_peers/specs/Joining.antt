-- Where nothing is under way two peers are both Closed or stand on one link, whatever happened before.
use Rattle.std.specs.Prelude.{◌≡◌, ℕ, Bool, true, false, IsTrue, IsFalse, [], ◌∷◌, List}
use Rattle.dm_machine.specs.declared.state_name.State.{State}
use Rattle.dm_machine.specs.declared.state_name.State.TheVariants.{Closed, WaitICea, WaitReturns, ROpen, IOpen, Closing}
use Rattle.dm_machine.specs.Moves.{NodeMoved}
use Rattle.dm_two_peers.specs.Machine.{conn, Role, Initiated, Accepted, Node, Input}
use Rattle.dm_two_peers.specs.Machine.{Command, machine_outcome, is_same_role}
use Rattle.dm_two_peers.specs.Links.{Side}
use Rattle.dm_two_peers.specs.Peers.{Peers}
use Rattle.dm_two_peers.specs.Worlds.{World, peer_on}
use Rattle.dm_two_peers.specs.Facts.{IsSoundWorld}
use Rattle.dm_two_peers.specs.Quiet.{is_quiet}

-- the states in which a side may be left with one connection, which it initiated or accepted
abbrev pub can_rest_in : Role → State → Bool
can_rest_in Initiated WaitICea = true
can_rest_in Initiated IOpen = true
can_rest_in Initiated Closing = true
can_rest_in Accepted ROpen = true
can_rest_in Accepted Closing = true
can_rest_in _ _ = false

-- it holds that link alone, in one of those states
pub record StandsOn (n : Node) (role : Role) (c : ℕ) : Type 0 where
  pub state : IsTrue (can_rest_in role n.state)
  pub held : n.held ≡ (role, conn c) ∷ []

-- both are Closed, or each stands on one link alone, the same one, in opposite roles
pub data AreJoined (a b : Node) : Type 0 where
  both_closed : a.state ≡ Closed → b.state ≡ Closed → AreJoined a b
  on_one : (role role' : Role) (c : ℕ) → IsFalse (is_same_role role role') → StandsOn a role c →
      StandsOn b role' c → AreJoined a b

-- the state of a side that lost its election and waits for the other side to disconnect
abbrev pub is_returning : State → Bool
is_returning WaitReturns = true
is_returning _ = false

-- in every sound world in which nothing is under way, if one side at least didn't lose its election to the other
abbrev pub QuietIsJoined : Type 0 → Type 0 → Type 0
QuietIsJoined P M =
    (m : Peers P M) (w : World P M) → IsSoundWorld m w → IsTrue (is_quiet w) → (s : Side) →
    IsFalse (is_returning (m.node_of (peer_on s w)).state) → AreJoined (m.node_of w.a) (m.node_of w.b)

-- a side that wins its elections doesn't come to wait for the other's disconnect
abbrev pub WinnerDoesNotReturn : Type 0
WinnerDoesNotReturn =
    (n next : Node) (i : Input) (commands : List Command) → IsFalse (is_returning n.state) →
    machine_outcome n i true ≡ NodeMoved commands next → IsFalse (is_returning next.state)
