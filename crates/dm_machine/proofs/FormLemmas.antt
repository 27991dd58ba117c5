-- A node of the right shape is one of the eight forms.
use Rattle.std.proofs.Common.{◌≡◌, ℕ, true, not, ◌&&◌, ◌==◌, IsTrue, List, [], ◌∷◌, refl, sym, subst, arith}
use Rattle.std.proofs.lemmas.Bool.{and_parts, and_from}
use Rattle.std.proofs.lemmas.Bool.Decides.{nat_tests}
use Rattle.dm_machine.specs.declared.connection.Conn.{Conn}
use Rattle.dm_machine.specs.declared.phase.Role.{Role}
use Rattle.dm_machine.specs.declared.phase.Role.TheVariants.{Initiated, Accepted}
use Rattle.dm_machine.specs.declared.state_name.State.{State}
use Rattle.dm_machine.specs.declared.state_name.State.TheVariants.{Closed, WaitConnAck, WaitICea, WaitConnAckElect, WaitReturns, ROpen, IOpen, Closing}
use Rattle.dm_machine.specs.Node.{node_at, is_held_in, is_count_of}
use Rattle.dm_machine.specs.Forms.{Form, closed, wait_conn_ack, wait_i_cea, wait_conn_ack_elect, wait_returns, r_open, i_open, closing, EachShapeIsAForm, EachFormIsShaped}

-- a form at count 0 is one at every count that is 0
at_zero : (s : State) (held : List (Role × Conn)) (n : ℕ) → (n == 0) ≡ true → Form (node_at s held 0) →
    Form (node_at s held n)
at_zero s held n e form =
    let zero_is : n ≡ 0 = grind (arith, nat_tests) in
    subst (λ (k : ℕ). Form (node_at s held k)) (sym zero_is) form

form_at : (s : State) (held : List (Role × Conn)) (n : ℕ) → IsTrue (is_held_in s held && is_count_of s n) →
    Form (node_at s held n)
form_at Closed [] n h = at_zero Closed [] n h closed
form_at WaitConnAck ((Initiated, i) ∷ []) n h = at_zero WaitConnAck ((Initiated, i) ∷ []) n h (wait_conn_ack i)
form_at WaitICea ((Initiated, i) ∷ []) n h = at_zero WaitICea ((Initiated, i) ∷ []) n h (wait_i_cea i)
form_at WaitConnAckElect ((Initiated, i) ∷ (Accepted, r) ∷ []) n h =
    let both = and_parts (not (i.0 == r.0)) (n == 0) h in
    at_zero WaitConnAckElect ((Initiated, i) ∷ (Accepted, r) ∷ []) n both.1 (wait_conn_ack_elect i r both.0)
form_at WaitReturns ((Initiated, i) ∷ (Accepted, r) ∷ []) n h =
    let both = and_parts (not (i.0 == r.0)) (n == 0) h in
    at_zero WaitReturns ((Initiated, i) ∷ (Accepted, r) ∷ []) n both.1 (wait_returns i r both.0)
form_at ROpen ((Accepted, r) ∷ []) n h = r_open r n h
form_at IOpen ((Initiated, i) ∷ []) n h = i_open i n h
form_at Closing ((role, x) ∷ []) n h = at_zero Closing ((role, x) ∷ []) n h (closing role x)
form_at _ _ n h = absurd cc

pub form_of : EachShapeIsAForm
form_of n h = form_at n.state n.held n.count h

pub shape_of : EachFormIsShaped
shape_of n closed = refl
shape_of n (wait_conn_ack i) = refl
shape_of n (wait_i_cea i) = refl
shape_of n (wait_conn_ack_elect i r apart) = and_from (not (i.0 == r.0)) true apart refl
shape_of n (wait_returns i r apart) = and_from (not (i.0 == r.0)) true apart refl
shape_of n (r_open r k few) = few
shape_of n (i_open i k few) = few
shape_of n (closing role x) = refl
