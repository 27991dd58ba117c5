-- Every step of every node, as it looks from one connection: there are finitely many, so a law that asks for no more is
-- checked by computing it at each.
use Rattle.std.proofs.Common.{◌≡◌, ℕ, zero, suc, nat_le, Bool, true, false, not, ◌&&◌, ◌==◌, IsTrue, Option, List, [], ◌∷◌, refl, sym, subst, arith}
use Rattle.std.proofs.lemmas.Bool.Decides.{nat_tests}
use Rattle.dm_machine.specs.declared.connection.Conn.{Conn}
use Rattle.dm_machine.specs.declared.phase.Role.{Role}
use Rattle.dm_machine.specs.declared.phase.Role.TheVariants.{Initiated, Accepted}
use Rattle.dm_machine.specs.declared.state_name.State.{State}
use Rattle.dm_machine.specs.declared.state_name.State.TheVariants.{Closed, WaitConnAck, WaitICea, WaitConnAckElect, WaitReturns, ROpen, IOpen, Closing}
use Rattle.dm_machine.specs.declared.inputs.Input.{Input}
use Rattle.dm_machine.specs.declared.inputs.Input.TheVariants.{Start, Ack, Nack, Gone, Heard}
use Rattle.dm_machine.specs.Table.{TableEvent}
use Rattle.dm_machine.specs.Node.{Node, node_at, is_shaped}
use Rattle.dm_machine.specs.Reading.{Place, conn_named, place_in, event_at, event_of}
use Rattle.dm_machine.specs.Moves.{NodeOutcome, machine_outcome, by_table}
use Rattle.dm_machine.specs.Forms.{Form, closed, wait_conn_ack, wait_i_cea, wait_conn_ack_elect, wait_returns, r_open, i_open, closing}
use Rattle.dm_machine.specs.EachStep.{everywhere}
use Rattle.dm_machine.proofs.FormLemmas.{form_of}
use Rattle.dm_machine.proofs.Renamed.{renamed_node, renamed_new, renamed_input, renamed_outcome, by_table-renamed}
use Rattle.dm_machine.proofs.Marks.{this, another, mark_if, mark, fits, place_fits}
use Rattle.dm_machine.proofs.Every.{at, bools, marks, places, every_input, at_bool, at_place, at_marked_input}

-- where the first test holds, the second
abbrev pub when : Bool → Bool → Bool
when b x = elim b [ false ↦ true | true ↦ x ]

pub is_when : (b x : Bool) → when b x ≡ true → b ≡ true → x ≡ true
is_when true x h e = h
is_when false x h e = cc

-- the nodes of the right shape, as they look from one connection
abbrev one : State → Role → ℕ → List Node
one s role n = node_at s ((role, this) ∷ []) n ∷ node_at s ((role, another) ∷ []) n ∷ []

abbrev pair : State → Conn → Conn → Node
pair s x y = node_at s ((Initiated, x) ∷ (Accepted, y) ∷ []) 0

abbrev two : State → List Node
two s = pair s this another ∷ pair s another this ∷ pair s another another ∷ []

abbrev nodes : List (List Node)
nodes =
    (node_at Closed [] 0 ∷ []) ∷ one WaitConnAck Initiated 0 ∷ one WaitICea Initiated 0 ∷ two WaitConnAckElect ∷
    two WaitReturns ∷ one ROpen Accepted 0 ∷ one ROpen Accepted 1 ∷ one ROpen Accepted 2 ∷ one IOpen Initiated 0 ∷
    one IOpen Initiated 1 ∷ one IOpen Initiated 2 ∷ one Closing Initiated 0 ∷ one Closing Accepted 0 ∷ []

abbrev pub every_node : (Node → Bool) → Bool
every_node f = everywhere (everywhere f) nodes

not_both : (c x y : Conn) → IsTrue (not (x.0 == y.0)) → ((x.0 == c.0) && (y.0 == c.0)) ≡ false
not_both c x y h = grind (arith, nat_tests)

at_one : (f : Node → Bool) (s : State) (role : Role) (n : ℕ) → everywhere f (one s role n) ≡ true → (b : Bool) →
    f (node_at s ((role, mark_if b) ∷ []) n) ≡ true
at_one f s role n h true = at f (one s role n) 0 h
at_one f s role n h false = at f (one s role n) 1 h

at_two : (f : Node → Bool) (s : State) → everywhere f (two s) ≡ true → (b d : Bool) → (b && d) ≡ false →
    f (pair s (mark_if b) (mark_if d)) ≡ true
at_two f s h true true g = cc
at_two f s h true false g = at f (two s) 0 h
at_two f s h false true g = at f (two s) 1 h
at_two f s h false false g = at f (two s) 2 h

at_open : (f : Node → Bool) (s : State) (role : Role) → everywhere f (one s role 0) ≡ true →
    everywhere f (one s role 1) ≡ true → everywhere f (one s role 2) ≡ true → (n : ℕ) → IsTrue (nat_le n 2) →
    (b : Bool) → f (node_at s ((role, mark_if b) ∷ []) n) ≡ true
at_open f s role none first second zero few b = at_one f s role 0 none b
at_open f s role none first second (suc zero) few b = at_one f s role 1 first b
at_open f s role none first second (suc (suc zero)) few b = at_one f s role 2 second b
at_open f s role none first second (suc (suc (suc n))) few b = grind (arith, nat_tests)

at_form : (f : Node → Bool) → every_node f ≡ true → (c : Conn) (n : Node) → Form n → f (renamed_node (mark c) n) ≡ true
at_form f h c n closed = at f (node_at Closed [] 0 ∷ []) 0 (at (everywhere f) nodes 0 h)
at_form f h c n (wait_conn_ack i) = at_one f WaitConnAck Initiated 0 (at (everywhere f) nodes 1 h) (i.0 == c.0)
at_form f h c n (wait_i_cea i) = at_one f WaitICea Initiated 0 (at (everywhere f) nodes 2 h) (i.0 == c.0)
at_form f h c n (wait_conn_ack_elect i r apart) =
    at_two f WaitConnAckElect (at (everywhere f) nodes 3 h) (i.0 == c.0) (r.0 == c.0) (not_both c i r apart)
at_form f h c n (wait_returns i r apart) =
    at_two f WaitReturns (at (everywhere f) nodes 4 h) (i.0 == c.0) (r.0 == c.0) (not_both c i r apart)
at_form f h c n (r_open r k few) =
    at_open f ROpen Accepted (at (everywhere f) nodes 5 h) (at (everywhere f) nodes 6 h) (at (everywhere f) nodes 7 h)
    k few (r.0 == c.0)
at_form f h c n (i_open i k few) =
    at_open f IOpen Initiated (at (everywhere f) nodes 8 h) (at (everywhere f) nodes 9 h) (at (everywhere f) nodes 10 h)
    k few (i.0 == c.0)
at_form f h c n (closing Initiated x) = at_one f Closing Initiated 0 (at (everywhere f) nodes 11 h) (x.0 == c.0)
at_form f h c n (closing Accepted x) = at_one f Closing Accepted 0 (at (everywhere f) nodes 12 h) (x.0 == c.0)

-- a law of one step, as a test of the marked node, the marked input and the marked outcome
abbrev pub MarkedTest : Type 0
MarkedTest = Node → Input → NodeOutcome → Bool

abbrev at_win : MarkedTest → Node → Input → Place → Bool → Bool
at_win law n i at wins = law n i (by_table n (event_at n.state n.count at i) (conn_named i) wins)

abbrev in_place : MarkedTest → Node → Input → Place → Bool
in_place law n i at = when (fits n (conn_named i) at) (everywhere (at_win law n i at) bools)

abbrev pub every_step : MarkedTest → Bool
every_step law = every_node (λ n. everywhere (every_input (λ i. everywhere (in_place law n i) places)) marks)

named_mark : (c : Conn) (i : Input) → conn_named (renamed_input (mark c) i) ≡ renamed_new (mark c) (conn_named i)
named_mark c (Start d) = refl
named_mark c (Ack d) = refl
named_mark c (Nack d) = refl
named_mark c (Gone d) = refl
named_mark c (Heard d w) = refl
named_mark c _ = refl

event_mark : (c : Conn) (s : State) (n : ℕ) (i : Input) (at : Place) →
    event_at s n at (renamed_input (mark c) i) ≡ event_at s n at i
event_mark c s n (Start d) at = refl
event_mark c s n (Ack d) at = refl
event_mark c s n (Nack d) at = refl
event_mark c s n (Gone d) at = refl
event_mark c s n (Heard d w) at = refl
event_mark c s n _ at = refl

-- the law holds of each step of each node of the right shape
pub at_step : (law : MarkedTest) → every_step law ≡ true → (n : Node) (i : Input) (wins : Bool) (c : Conn) →
    IsTrue (is_shaped n) →
    law (renamed_node (mark c) n) (renamed_input (mark c) i) (renamed_outcome (mark c) (machine_outcome n i wins)) ≡ true
at_step law h n i wins c g =
    let m = renamed_node (mark c) n in
    let j = renamed_input (mark c) i in
    let at = place_in n (conn_named i) in
    let each = λ (k : Node). everywhere (every_input (λ j'. everywhere (in_place law k j') places)) marks in
    let at_n = at_form each h c n (form_of n g) in
    let at_i = at_marked_input (λ j'. everywhere (in_place law m j') places) at_n c i in
    let at_p = at_place (in_place law m j) at_i at in
    let F : Option Conn → Type 0 = λ o. fits m o at ≡ true in
    let fit = subst F (sym (named_mark c i)) (place_fits n c (conn_named i)) in
    let here = is_when (fits m (conn_named j) at) (everywhere (at_win law m j at) bools) at_p fit in
    let at_w = at_bool (at_win law m j at) here wins in
    let by_event : TableEvent → Type 0 = λ e. law m j (by_table m e (conn_named j) wins) ≡ true in
    let by_name : Option Conn → Type 0 = λ o. law m j (by_table m (event_of n i) o wins) ≡ true in
    let by_outcome : NodeOutcome → Type 0 = λ o. law m j o ≡ true in
    let read = subst by_event (event_mark c n.state n.count i at) at_w in
    subst by_outcome (by_table-renamed (mark c) n (event_of n i) (conn_named i) wins)
    (subst by_name (named_mark c i) read)
