-- What a connection is to a node goes by its state, and so do the numbers that are awaited.
use Rattle.std.proofs.Common.{◌≡◌, ℕ, ◌==◌, Bool, true, false, not, ◌&&◌, ◌||◌, IsTrue, if◌then◌else◌, List, refl, subst}
use Rattle.dm_machine.specs.declared.state_name.State.{State}
use Rattle.dm_machine.specs.declared.state_name.State.TheVariants as state
use Rattle.dm_machine.specs.declared.connection.Conn.{Conn}
use Rattle.dm_machine.specs.declared.inputs.Input.{Input}
use Rattle.dm_machine.specs.declared.inputs.Input.TheVariants as input
use Rattle.dm_machine.specs.declared.outputs.Command.{Command}
use Rattle.dm_machine.specs.declared.phase.Role.TheVariants.{Initiated, Accepted}
use Rattle.dm_machine.specs.Awaiting.{awaits_cea, awaits_dpa, holds_cer}
use Rattle.dm_machine.specs.Node.{Node, is_shaped}
use Rattle.dm_machine.specs.Forms.{Form, closed, wait_conn_ack, wait_i_cea, wait_conn_ack_elect, wait_returns, r_open, i_open, closing}
use Rattle.dm_machine.specs.Connection.{Hold, NotHeld, Pending, Made, OpenAsI, ClosingAsI, Taken, OpenAsR, ClosingAsR, hold_of}
use Rattle.dm_machine.specs.EachStep.{StepTest, everywhere, passes_of, EachStepHolds}
use Rattle.dm_machine.specs.Moves.{NodeOutcome, NodeMoved, NodeRefused, is_open, machine_outcome}
use Rattle.dm_peer.specs.After.{request_in, is_cer, is_dpr}
use Rattle.dm_two_peers.specs.Machine.{conn}

-- the states for what a connection is
abbrev pub is_state_for : Hold → State → Bool
is_state_for NotHeld s = true
is_state_for Pending s = not (awaits_cea s) && not (awaits_dpa s)
is_state_for Made s = awaits_cea s && not (awaits_dpa s)
is_state_for OpenAsI s = is_open s && not (awaits_dpa s)
is_state_for OpenAsR s = is_open s && not (awaits_dpa s)
is_state_for Taken s = holds_cer s
is_state_for ClosingAsI s = awaits_dpa s
is_state_for ClosingAsR s = awaits_dpa s

either : (b : Bool) (x y : Hold) (s : State) → is_state_for x s ≡ true → is_state_for y s ≡ true →
    is_state_for (if b then x else y) s ≡ true
either true x y s f g = f
either false x y s f g = g

pub hold_fits : (n : Node) (c : ℕ) → Form n → is_state_for (hold_of n (conn c)) n.state ≡ true
hold_fits n c closed = refl
hold_fits n c (wait_conn_ack i) = either (i.0 == c) Pending NotHeld state.WaitConnAck refl refl
hold_fits n c (wait_i_cea i) = either (i.0 == c) Made NotHeld state.WaitICea refl refl
hold_fits n c (wait_conn_ack_elect i r apart) =
    either (i.0 == c) Pending (if r.0 == c then Taken else NotHeld) state.WaitConnAckElect refl
    (either (r.0 == c) Taken NotHeld state.WaitConnAckElect refl refl)
hold_fits n c (wait_returns i r apart) =
    either (i.0 == c) Made (if r.0 == c then Taken else NotHeld) state.WaitReturns refl
    (either (r.0 == c) Taken NotHeld state.WaitReturns refl refl)
hold_fits n c (r_open r k few) = either (r.0 == c) OpenAsR NotHeld state.ROpen refl refl
hold_fits n c (i_open i k few) = either (i.0 == c) OpenAsI NotHeld state.IOpen refl refl
hold_fits n c (closing Initiated x) = either (x.0 == c) ClosingAsI NotHeld state.Closing refl refl
hold_fits n c (closing Accepted x) = either (x.0 == c) ClosingAsR NotHeld state.Closing refl refl

-- the requests that are sent as states are entered and kept
abbrev pub is_stop_input : Input → Bool
is_stop_input input.Stop = true
is_stop_input _ = false

abbrev pub if_then : Bool → Bool → Bool
if_then a b = not a || b

abbrev pub same : Bool → Bool → Bool
same true b = b
same false b = not b

abbrev pub numbers_kept : Input → Node → List Command → Node → Bool
numbers_kept i n commands next =
    if_then (awaits_cea next.state) (same (awaits_cea n.state) (not (is_cer (request_in commands))))
    && (if_then (awaits_dpa n.state && awaits_dpa next.state) (not (is_dpr (request_in commands)))
    && if_then (is_open n.state && awaits_dpa next.state) (same (is_stop_input i) (is_dpr (request_in commands))))

abbrev numbers_of : Input → Node → NodeOutcome → Bool
numbers_of i n (NodeMoved commands next) = numbers_kept i n commands next
numbers_of i n (NodeRefused r) = true

abbrev keeps_numbers : StepTest
keeps_numbers n at i o = numbers_of i n o

numbers_checked : (i r c : Conn) → IsTrue (passes_of keeps_numbers i r c)
unfolding everywhere
numbers_checked i r c = refl

pub step_keeps_numbers : EachStepHolds → (n next : Node) (i : Input) (wins : Bool) (commands : List Command) →
    is_shaped n ≡ true → machine_outcome n i wins ≡ NodeMoved commands next → numbers_kept i n commands next ≡ true
step_keeps_numbers steps n next i wins commands shaped is =
    subst (λ o. numbers_of i n o ≡ true) is (steps keeps_numbers numbers_checked n i wins shaped)
