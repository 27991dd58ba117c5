-- The machine's steps in a clean run, at an initiated connection x and an accepted one y.
use Rattle.std.proofs.Common.{◌≡◌, ℕ, ◌==◌, Bool, true, false, [], ◌∷◌, refl}
use Rattle.dm_machine.specs.declared.state_name.State.TheVariants.{WaitConnAck, WaitICea, WaitConnAckElect, WaitReturns}
use Rattle.dm_machine.specs.declared.state_name.State.TheVariants.{ROpen, IOpen}
use Rattle.dm_machine.specs.declared.inputs.Word.TheVariants.{Unreadable, Cer, Cea}
use Rattle.dm_machine.specs.declared.inputs.Input.TheVariants.{Start, Ack, Gone, Heard}
use Rattle.dm_machine.specs.declared.outputs.Command.TheVariants.{Connect, SendCer, SendCea, Close}
use Rattle.dm_machine.specs.declared.outputs.Refusal.TheVariants.{NotClosed}
use Rattle.dm_machine.specs.Moves.{NodeMoved, NodeRefused}
use Rattle.dm_two_peers.specs.Machine.{conn, Initiated, Accepted, Node, node_at, machine_outcome, closed_node}

abbrev pub wait_conn_ack : ℕ → Node
wait_conn_ack x = node_at WaitConnAck ((Initiated, conn x) ∷ []) 0

abbrev pub wait_i_cea : ℕ → Node
wait_i_cea x = node_at WaitICea ((Initiated, conn x) ∷ []) 0

abbrev pub elect : ℕ → ℕ → Node
elect x y = node_at WaitConnAckElect ((Initiated, conn x) ∷ (Accepted, conn y) ∷ []) 0

abbrev pub returns : ℕ → ℕ → Node
returns x y = node_at WaitReturns ((Initiated, conn x) ∷ (Accepted, conn y) ∷ []) 0

abbrev pub r_open : ℕ → Node
r_open y = node_at ROpen ((Accepted, conn y) ∷ []) 0

abbrev pub i_open : ℕ → Node
i_open x = node_at IOpen ((Initiated, conn x) ∷ []) 0

pub out_start : (x : ℕ) (b : Bool) →
    machine_outcome closed_node (Start (conn x)) b ≡ NodeMoved (Connect (conn x) ∷ []) (wait_conn_ack x)
out_start x true = refl
out_start x false = refl

pub out_ack : (x : ℕ) (b : Bool) → (x == x) ≡ true →
    machine_outcome (wait_conn_ack x) (Ack (conn x)) b ≡ NodeMoved (SendCer (conn x) ∷ []) (wait_i_cea x)
out_ack x true xx = simp (xx)
out_ack x false xx = simp (xx)

pub out_ack_lose : (x y : ℕ) → (x == x) ≡ true →
    machine_outcome (elect x y) (Ack (conn x)) false ≡ NodeMoved (SendCer (conn x) ∷ []) (returns x y)
out_ack_lose x y xx = simp (xx)

pub out_ack_win : (x y : ℕ) → (x == x) ≡ true →
    machine_outcome (elect x y) (Ack (conn x)) true ≡ NodeMoved (SendCer (conn x) ∷ Close (conn x) ∷ SendCea (conn y) ∷ [])
    (r_open y)
out_ack_win x y xx = simp (xx)

pub out_cer_closed : (y : ℕ) (b : Bool) →
    machine_outcome closed_node (Heard (conn y) Cer) b ≡ NodeMoved (SendCea (conn y) ∷ []) (r_open y)
out_cer_closed y true = refl
out_cer_closed y false = refl

pub out_cer_wait : (x y : ℕ) (b : Bool) → (x == y) ≡ false →
    machine_outcome (wait_conn_ack x) (Heard (conn y) Cer) b ≡ NodeMoved [] (elect x y)
out_cer_wait x y true xy = simp (xy)
out_cer_wait x y false xy = simp (xy)

pub out_cer_lose : (x y : ℕ) → (x == y) ≡ false →
    machine_outcome (wait_i_cea x) (Heard (conn y) Cer) false ≡ NodeMoved [] (returns x y)
out_cer_lose x y xy = simp (xy)

pub out_cer_win : (x y : ℕ) → (x == y) ≡ false →
    machine_outcome (wait_i_cea x) (Heard (conn y) Cer) true ≡ NodeMoved (Close (conn x) ∷ SendCea (conn y) ∷ []) (r_open y)
out_cer_win x y xy = simp (xy)

pub out_reject : (x y : ℕ) (b : Bool) → (x == y) ≡ false →
    machine_outcome (i_open x) (Heard (conn y) Unreadable) b ≡ NodeMoved (Close (conn y) ∷ []) (i_open x)
out_reject x y true xy = simp (xy)
out_reject x y false xy = simp (xy)

pub out_cea : (x : ℕ) (b : Bool) → (x == x) ≡ true →
    machine_outcome (wait_i_cea x) (Heard (conn x) Cea) b ≡ NodeMoved [] (i_open x)
out_cea x true xx = simp (xx)
out_cea x false xx = simp (xx)

pub out_cea_returns : (x y : ℕ) (b : Bool) → (x == x) ≡ true →
    machine_outcome (returns x y) (Heard (conn x) Cea) b ≡ NodeMoved (Close (conn y) ∷ []) (i_open x)
out_cea_returns x y true xx = simp (xx)
out_cea_returns x y false xx = simp (xx)

pub out_gone : (x y : ℕ) (b : Bool) → (x == y) ≡ false → (y == y) ≡ true →
    machine_outcome (returns x y) (Gone (conn y)) b ≡ NodeMoved (Close (conn y) ∷ []) (wait_i_cea x)
out_gone x y true xy yy = simp (xy, yy)
out_gone x y false xy yy = simp (xy, yy)

-- a Start outside Closed
pub out_start_wait : (x c : ℕ) (b : Bool) → machine_outcome (wait_conn_ack x) (Start (conn c)) b ≡ NodeRefused NotClosed
out_start_wait x c true = refl
out_start_wait x c false = refl

pub out_start_cea : (x c : ℕ) (b : Bool) → machine_outcome (wait_i_cea x) (Start (conn c)) b ≡ NodeRefused NotClosed
out_start_cea x c true = refl
out_start_cea x c false = refl

pub out_start_elect : (x y c : ℕ) (b : Bool) → machine_outcome (elect x y) (Start (conn c)) b ≡ NodeRefused NotClosed
out_start_elect x y c true = refl
out_start_elect x y c false = refl

pub out_start_returns : (x y c : ℕ) (b : Bool) → machine_outcome (returns x y) (Start (conn c)) b ≡ NodeRefused NotClosed
out_start_returns x y c true = refl
out_start_returns x y c false = refl

pub out_start_r : (y c : ℕ) (b : Bool) → machine_outcome (r_open y) (Start (conn c)) b ≡ NodeRefused NotClosed
out_start_r y c true = refl
out_start_r y c false = refl

pub out_start_i : (x c : ℕ) (b : Bool) → machine_outcome (i_open x) (Start (conn c)) b ≡ NodeRefused NotClosed
out_start_i x c true = refl
out_start_i x c false = refl
