-- What every step of every node keeps, as it looks from one connection: computed once at each, for all the laws.
use Rattle.std.proofs.Common.{◌≡◌, Bool, true, not, ◌&&◌, ◌==◌, nat_le, List, [], ◌∷◌, length, refl}
use Rattle.std.proofs.lemmas.Bool.{and_parts}
use Rattle.dm_machine.specs.declared.connection.Conn.{Conn}
use Rattle.dm_machine.specs.declared.phase.Role.{Role}
use Rattle.dm_machine.specs.declared.phase.Role.TheVariants.{Initiated, Accepted}
use Rattle.dm_machine.specs.declared.state_name.State.{State}
use Rattle.dm_machine.specs.declared.state_name.State.TheVariants.{WaitConnAckElect, WaitReturns}
use Rattle.dm_machine.specs.declared.inputs.Input.{Input}
use Rattle.dm_machine.specs.Node.{Node, is_shaped, is_held_in, is_count_of}
use Rattle.dm_machine.specs.Moves.{NodeMoved, NodeRefused, machine_outcome}
use Rattle.dm_machine.specs.Connection.{hold_of, concern_of, orders_to}
use Rattle.dm_machine.specs.Changes.{changed_to, allowed}
use Rattle.dm_machine.proofs.Renamed.{renamed_node, renamed_input, renamed_outcome}
use Rattle.dm_machine.proofs.Marks.{this, mark}
use Rattle.dm_machine.specs.EachStep.{everywhere}
use Rattle.dm_machine.proofs.Steps.{MarkedTest, every_step, at_step}
use Rattle.dm_machine.proofs.ChangeLemmas.{lists_change}
use Rattle.std.specs.Prelude.{IsTrue}

-- two connections are told apart only if one of them is looked at
abbrev pub is_held_seen : State → List (Role × Conn) → Bool
is_held_seen WaitConnAckElect ((Initiated, i) ∷ (Accepted, r) ∷ []) = not ((i.0 == 1) && (r.0 == 1))
is_held_seen WaitReturns ((Initiated, i) ∷ (Accepted, r) ∷ []) = not ((i.0 == 1) && (r.0 == 1))
is_held_seen s held = is_held_in s held

-- the change of the connection that is looked at is listed
abbrev pub is_listed : MarkedTest
is_listed n i (NodeMoved commands next) = lists_change (changed_to (hold_of next this) (orders_to this commands))
    (allowed (concern_of i this) (hold_of n this))
is_listed n i (NodeRefused r) = true

-- the next node has its shape, and there are few commands
abbrev pub is_kept : MarkedTest
is_kept n i (NodeMoved commands next) = (is_held_seen next.state next.held && is_count_of next.state next.count) &&
    nat_le (length commands) 4
is_kept n i (NodeRefused r) = true

abbrev is_right : MarkedTest
is_right n i o = is_listed n i o && is_kept n i o

checked : every_step is_right ≡ true
unfolding everywhere
checked = refl

abbrev seen : MarkedTest → Node → Input → Bool → Conn → Bool
seen test n i wins c = test (renamed_node (mark c) n) (renamed_input (mark c) i)
    (renamed_outcome (mark c) (machine_outcome n i wins))

right : (n : Node) (i : Input) (wins : Bool) (c : Conn) → IsTrue (is_shaped n) → seen is_right n i wins c ≡ true
right n i wins c h = at_step is_right checked n i wins c h

pub listed : (n : Node) (i : Input) (wins : Bool) (c : Conn) → IsTrue (is_shaped n) → seen is_listed n i wins c ≡ true
listed n i wins c h = (and_parts (seen is_listed n i wins c) (seen is_kept n i wins c) (right n i wins c h)).0

pub kept : (n : Node) (i : Input) (wins : Bool) (c : Conn) → IsTrue (is_shaped n) → seen is_kept n i wins c ≡ true
kept n i wins c h = (and_parts (seen is_listed n i wins c) (seen is_kept n i wins c) (right n i wins c h)).1
