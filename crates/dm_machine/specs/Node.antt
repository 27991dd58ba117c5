-- What a peer is in: a state, the connections that it holds, each in a role, and the watchdog's count.
use Rattle.std.specs.Prelude.{ℕ, Bool, true, false, not, ◌&&◌, ◌==◌, nat_le}
use Rattle.std.specs.Prelude.{if◌then◌else◌, Option, Some, None, List, [], ◌∷◌}
use Rattle.dm_machine.specs.declared.connection.Conn.{Conn}
use Rattle.dm_machine.specs.declared.phase.Role.{Role}
use Rattle.dm_machine.specs.declared.phase.Role.TheVariants.{Initiated, Accepted}
use Rattle.dm_machine.specs.declared.state_name.State.{State}
use Rattle.dm_machine.specs.declared.state_name.State.TheVariants.{Closed, WaitConnAck, WaitICea, WaitConnAckElect}
use Rattle.dm_machine.specs.declared.state_name.State.TheVariants.{WaitReturns, ROpen, IOpen, Closing}

-- the set of pairs is written as a list, the initiated connection first
pub record Node : Type 0 where
  pub state : State
  pub held : List (Role × Conn)
  pub count : ℕ

abbrev pub node_at : State → List (Role × Conn) → ℕ → Node
node_at state held count = record { state = state; held = held; count = count }

abbrev pub is_same_role : Role → Role → Bool
is_same_role Initiated Initiated = true
is_same_role Accepted Accepted = true
is_same_role _ _ = false

-- the connection held in a role
abbrev pub held_as : Role → List (Role × Conn) → Option Conn
held_as role [] = None
held_as role (p ∷ ps) = if is_same_role p.0 role then Some p.1 else held_as role ps

-- x: in R-Open, I-Open and Closing the one connection held
abbrev pub only_held : List (Role × Conn) → Option Conn
only_held [] = None
only_held (p ∷ ps) = Some p.1

-- the set without the pair of a role
abbrev pub without : Role → List (Role × Conn) → List (Role × Conn)
without role [] = []
without role (p ∷ ps) = if is_same_role p.0 role then without role ps else p ∷ without role ps

-- the pair of a role and a connection
abbrev pub pair_of : Role → Option Conn → List (Role × Conn)
pair_of role None = []
pair_of role (Some c) = (role, c) ∷ []

-- the connections that each state holds
abbrev pub is_held_in : State → List (Role × Conn) → Bool
is_held_in Closed [] = true
is_held_in WaitConnAck ((Initiated, i) ∷ []) = true
is_held_in WaitICea ((Initiated, i) ∷ []) = true
is_held_in WaitConnAckElect ((Initiated, i) ∷ (Accepted, r) ∷ []) = not (i.0 == r.0)
is_held_in WaitReturns ((Initiated, i) ∷ (Accepted, r) ∷ []) = not (i.0 == r.0)
is_held_in ROpen ((Accepted, r) ∷ []) = true
is_held_in IOpen ((Initiated, i) ∷ []) = true
is_held_in Closing ((role, x) ∷ []) = true
is_held_in _ _ = false

-- the counts that each state has
abbrev pub is_count_of : State → ℕ → Bool
is_count_of ROpen n = nat_le n 2
is_count_of IOpen n = nat_le n 2
is_count_of _ n = n == 0

-- the shape that every node keeps
abbrev pub is_shaped : Node → Bool
is_shaped n = is_held_in n.state n.held && is_count_of n.state n.count
