-- A test that looks at no connection, computed at each of few steps, holds of every step.
use Rattle.std.proofs.Common.{◌≡◌, zero, suc, Bool, true, false, ◌==◌, if◌then◌else◌, Option, Some, None, [], ◌∷◌, arith}
use Rattle.std.proofs.lemmas.Bool.Decides.{nat_tests}
use Rattle.dm_machine.specs.declared.connection.Conn.{Conn}
use Rattle.dm_machine.specs.declared.phase.Role.TheVariants.{Initiated, Accepted}
use Rattle.dm_machine.specs.Node.{Node}
use Rattle.dm_machine.specs.Forms.{Form, closed, wait_conn_ack, wait_i_cea, wait_conn_ack_elect, wait_returns, r_open, i_open, closing}
use Rattle.dm_machine.specs.Reading.{Place, OnI, OnR, OnX, OnNew, conn_named, place_in, event_of}
use Rattle.dm_machine.specs.Moves.{by_table}
use Rattle.dm_machine.specs.EachStep.{nodes_of, places_of, everywhere, passes_at, passes_on, EachStepHolds}
use Rattle.dm_machine.proofs.FormLemmas.{form_of}
use Rattle.dm_machine.proofs.Marks.{another}
use Rattle.dm_machine.proofs.Every.{at, at_bool, conn_in, at_input}

at_node : (f : Node → Bool) → ((i r : Conn) → everywhere f (nodes_of i r) ≡ true) → (n : Node) → Form n → f n ≡ true
at_node f h n closed = at f (nodes_of another another) 0 (h another another)
at_node f h n (wait_conn_ack i) = at f (nodes_of i i) 1 (h i i)
at_node f h n (wait_i_cea i) = at f (nodes_of i i) 2 (h i i)
at_node f h n (wait_conn_ack_elect i r apart) = at f (nodes_of i r) 3 (h i r)
at_node f h n (wait_returns i r apart) = at f (nodes_of i r) 4 (h i r)
at_node f h n (r_open r zero few) = at f (nodes_of r r) 5 (h r r)
at_node f h n (r_open r (suc zero) few) = at f (nodes_of r r) 6 (h r r)
at_node f h n (r_open r (suc (suc zero)) few) = at f (nodes_of r r) 7 (h r r)
at_node f h n (r_open r (suc (suc (suc k))) few) = absurd (grind (arith, nat_tests))
at_node f h n (i_open i zero few) = at f (nodes_of i i) 8 (h i i)
at_node f h n (i_open i (suc zero) few) = at f (nodes_of i i) 9 (h i i)
at_node f h n (i_open i (suc (suc zero)) few) = at f (nodes_of i i) 10 (h i i)
at_node f h n (i_open i (suc (suc (suc k))) few) = absurd (grind (arith, nat_tests))
at_node f h n (closing Initiated x) = at f (nodes_of x x) 11 (h x x)
at_node f h n (closing Accepted x) = at f (nodes_of x x) 12 (h x x)

-- one place or another
by_one : (f : Place → Bool) (b : Bool) (p : Place) → everywhere f (p ∷ OnNew ∷ []) ≡ true →
    f (if b then p else OnNew) ≡ true
by_one f true p h = at f (p ∷ OnNew ∷ []) 0 h
by_one f false p h = at f (p ∷ OnNew ∷ []) 1 h

by_two : (f : Place → Bool) (b d : Bool) → everywhere f (OnI ∷ OnR ∷ OnNew ∷ []) ≡ true →
    f (if b then OnI else (if d then OnR else OnNew)) ≡ true
by_two f true d h = at f (OnI ∷ OnR ∷ OnNew ∷ []) 0 h
by_two f false true h = at f (OnI ∷ OnR ∷ OnNew ∷ []) 1 h
by_two f false false h = at f (OnI ∷ OnR ∷ OnNew ∷ []) 2 h

at_place : (f : Place → Bool) (n : Node) → Form n → (new : Option Conn) → everywhere f (places_of n.state) ≡ true →
    f (place_in n new) ≡ true
at_place f n closed None h = at f (OnNew ∷ []) 0 h
at_place f n closed (Some c) h = at f (OnNew ∷ []) 0 h
at_place f n (wait_conn_ack i) None h = by_one f false OnI h
at_place f n (wait_conn_ack i) (Some c) h = by_one f (i.0 == c.0) OnI h
at_place f n (wait_i_cea i) None h = by_one f false OnI h
at_place f n (wait_i_cea i) (Some c) h = by_one f (i.0 == c.0) OnI h
at_place f n (wait_conn_ack_elect i r apart) None h = by_two f false false h
at_place f n (wait_conn_ack_elect i r apart) (Some c) h = by_two f (i.0 == c.0) (r.0 == c.0) h
at_place f n (wait_returns i r apart) None h = by_two f false false h
at_place f n (wait_returns i r apart) (Some c) h = by_two f (i.0 == c.0) (r.0 == c.0) h
at_place f n (r_open r k few) None h = by_one f false OnX h
at_place f n (r_open r k few) (Some c) h = by_one f (r.0 == c.0) OnX h
at_place f n (i_open i k few) None h = by_one f false OnX h
at_place f n (i_open i k few) (Some c) h = by_one f (i.0 == c.0) OnX h
at_place f n (closing role x) None h = by_one f false OnX h
at_place f n (closing role x) (Some c) h = by_one f (x.0 == c.0) OnX h

pub each_step_holds : EachStepHolds
each_step_holds test h n i wins shaped =
    let form = form_of n shaped in
    let new = conn_named i in
    let here = place_in n new in
    let c = conn_in i in
    let at_n = at_node (λ (k : Node). everywhere (passes_on test k c) (places_of k.state)) (λ a b. h a b c) n form in
    let at_p = at_place (passes_on test n c) n form new at_n in
    let at_i = at_input (passes_at test n here) i at_p in
    at_bool (λ w. test n here i (by_table n (event_of n i) new w)) at_i wins
