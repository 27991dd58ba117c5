-- What each input does to a node that is open on a connection: it is open on it still, with a count, or not open.
use Rattle.std.proofs.Common.{◌≡◌, inl, inr, ℕ, zero, suc, ◌+◌, Bool, true, false, ◌==◌, nat_le, Option, None, Some, List, [], ◌∷◌, if◌then◌else◌, IsTrue, refl, sym, subst, ap, ◌∙◌, arith}
use Rattle.std.specs.Prelude.{⊤}
use Rattle.std.proofs.lemmas.Bool.{eqb-true, cases_Bool}
use Rattle.std.proofs.lemmas.Bool.Decides.{nat_tests}
use Rattle.dm_machine.specs.declared.connection.Conn.{Conn}
use Rattle.dm_machine.specs.declared.phase.Role.{Role}
use Rattle.dm_machine.specs.declared.phase.Role.TheVariants.{Initiated, Accepted}
use Rattle.dm_machine.specs.declared.inputs.Input.{Input}
use Rattle.dm_machine.specs.declared.inputs.Input.TheVariants as input
use Rattle.dm_machine.specs.declared.inputs.Word.{Word}
use Rattle.dm_machine.specs.declared.inputs.Word.TheVariants.{Unreadable, Cer, CerRefused, Cea, CeaFailed, Dwr, DwrBad, Dwa, DwaBad, Dpr, DprBad, Dpa, DpaBad, Other}
use Rattle.dm_machine.specs.Table.{TableEvent}
use Rattle.dm_machine.specs.Node.{Node, node_at}
use Rattle.dm_machine.specs.Phases.{open_as}
use Rattle.dm_machine.specs.Forms.{Form, closed, wait_conn_ack, wait_i_cea, wait_conn_ack_elect, wait_returns, r_open, i_open, closing}
use Rattle.dm_machine.specs.Reading.{Place, OnX, OnNew, place_of, first_message, message_on_x, message_event, connect_event, end_event}
use Rattle.dm_machine.specs.Table as table
use Rattle.dm_machine.specs.declared.outputs.Command.{Command}
use Rattle.dm_machine.specs.Moves.{NodeOutcome, NodeMoved, NodeRefused, is_open, machine_outcome, by_table}
use Rattle.dm_machine.specs.Connection.{Hold, NotHeld, Pending, Made, OpenAsI, ClosingAsI, Taken, OpenAsR, ClosingAsR, hold_as, hold_of, Concern, AsksStop, SaysTick, AcksIt, NacksIt, EndsIt, HeardOnIt, if_named, concern_of}
use Rattle.dm_machine.specs.Upward.{is_open_hold}
use Rattle.dm_history.proofs.SameConn.{same_conn, same_number}

abbrev pub open_node : Role → Conn → ℕ → Node
open_node role c k = node_at (open_as role) ((role, c) ∷ []) k

-- the words at which it stays open
abbrev pub keeps_open : Word → Bool
keeps_open Other = true
keeps_open Dwr = true
keeps_open DwrBad = true
keeps_open Dwa = true
keeps_open DwaBad = true
keeps_open DprBad = true
keeps_open _ = false

-- the count with which it does
abbrev pub kept_count : ℕ → Concern → Option ℕ
kept_count k AsksStop = None
kept_count k SaysTick = if k == 2 then None else Some (k + 1)
kept_count k EndsIt = None
kept_count k (HeardOnIt w) = if keeps_open w then Some 0 else None
kept_count k _ = Some k

abbrev pub LeftAs : Role → Conn → Option ℕ → Node → Type 0
LeftAs role c (Some k) next = next ≡ open_node role c k
LeftAs role c None next = is_open next.state ≡ false

abbrev pub LeavesNode : Role → Conn → Option ℕ → NodeOutcome → Type 0
LeavesNode role c m (NodeMoved commands next) = LeftAs role c m next
LeavesNode role c m (NodeRefused r) = ⊤

at_tick : (role : Role) (c : Conn) (k : ℕ) → IsTrue (nat_le k 2) → (wins : Bool) →
    LeavesNode role c (kept_count k SaysTick) (machine_outcome (open_node role c k) input.Tick wins)
at_tick Initiated c zero few wins = refl
at_tick Initiated c (suc zero) few wins = refl
at_tick Initiated c (suc (suc zero)) few wins = refl
at_tick Initiated c (suc (suc (suc k))) few wins = absurd (grind (arith, nat_tests))
at_tick Accepted c zero few wins = refl
at_tick Accepted c (suc zero) few wins = refl
at_tick Accepted c (suc (suc zero)) few wins = refl
at_tick Accepted c (suc (suc (suc k))) few wins = absurd (grind (arith, nat_tests))

-- an Ack or a Nack concerns no open connection
connect_by : (role : Role) (c : Conn) (k : ℕ) (d : Conn) (wins : Bool) (e : TableEvent) (b : Bool) →
    LeavesNode role c (Some k)
    (by_table (open_node role c k) (connect_event e (if b then OnX else OnNew)) (Some d) wins)
connect_by Initiated c k d wins e true = refl
connect_by Initiated c k d wins e false = refl
connect_by Accepted c k d wins e true = refl
connect_by Accepted c k d wins e false = refl

kept_if : (k : ℕ) (b : Bool) (q : Concern) → kept_count k q ≡ Some k → kept_count k (if_named b q) ≡ Some k
kept_if k true q e = e
kept_if k false q e = refl

flip_same : (a b : ℕ) → (a == b) ≡ (b == a)
flip_same a b = elim (cases_Bool (a == b)) [
  | inl t ↦ t ∙ sym (ap (λ n. b == n) (eqb-true a b t) ∙ same_number b)
  | inr f ↦ elim (cases_Bool (b == a)) [
    | inl t ↦ absurd (cc (sym f ∙ (ap (λ n. a == n) (eqb-true b a t) ∙ same_number a)))
    | inr g ↦ f ∙ sym g
  ]
]

gone_by : (role : Role) (c : Conn) (k : ℕ) (d : Conn) (wins b : Bool) →
    LeavesNode role c (kept_count k (if_named b EndsIt))
    (by_table (open_node role c k) (end_event (open_as role) (if b then OnX else OnNew)) (Some d) wins)
gone_by Initiated c k d wins true = refl
gone_by Initiated c k d wins false = refl
gone_by Accepted c k d wins true = refl
gone_by Accepted c k d wins false = refl

heard_on_x : (role : Role) (c : Conn) (k : ℕ) (d : Conn) (w : Word) (wins : Bool) →
    LeavesNode role c (kept_count k (HeardOnIt w)) (by_table (open_node role c k) (message_on_x w) (Some d) wins)
heard_on_x Initiated c k d Unreadable wins = refl
heard_on_x Initiated c k d Cer wins = refl
heard_on_x Initiated c k d CerRefused wins = refl
heard_on_x Initiated c k d Cea wins = refl
heard_on_x Initiated c k d CeaFailed wins = refl
heard_on_x Initiated c k d Dwr wins = refl
heard_on_x Initiated c k d DwrBad wins = refl
heard_on_x Initiated c k d Dwa wins = refl
heard_on_x Initiated c k d DwaBad wins = refl
heard_on_x Initiated c k d Dpr wins = refl
heard_on_x Initiated c k d DprBad wins = refl
heard_on_x Initiated c k d Dpa wins = refl
heard_on_x Initiated c k d DpaBad wins = refl
heard_on_x Initiated c k d Other wins = refl
heard_on_x Accepted c k d Unreadable wins = refl
heard_on_x Accepted c k d Cer wins = refl
heard_on_x Accepted c k d CerRefused wins = refl
heard_on_x Accepted c k d Cea wins = refl
heard_on_x Accepted c k d CeaFailed wins = refl
heard_on_x Accepted c k d Dwr wins = refl
heard_on_x Accepted c k d DwrBad wins = refl
heard_on_x Accepted c k d Dwa wins = refl
heard_on_x Accepted c k d DwaBad wins = refl
heard_on_x Accepted c k d Dpr wins = refl
heard_on_x Accepted c k d DprBad wins = refl
heard_on_x Accepted c k d Dpa wins = refl
heard_on_x Accepted c k d DpaBad wins = refl
heard_on_x Accepted c k d Other wins = refl

-- on another connection
first_heard : (role : Role) (c : Conn) (k : ℕ) (d : Conn) (w : Word) (wins : Bool) →
    LeavesNode role c (Some k) (by_table (open_node role c k) (first_message w) (Some d) wins)
first_heard Initiated c k d Cer wins = refl
first_heard Initiated c k d CerRefused wins = refl
first_heard Initiated c k d _ wins = refl
first_heard Accepted c k d Cer wins = refl
first_heard Accepted c k d CerRefused wins = refl
first_heard Accepted c k d _ wins = refl

heard_by : (role : Role) (c : Conn) (k : ℕ) (d : Conn) (w : Word) (wins b : Bool) →
    LeavesNode role c (kept_count k (if_named b (HeardOnIt w)))
    (by_table (open_node role c k) (message_event (open_as role) w (if b then OnX else OnNew)) (Some d) wins)
heard_by role c k d w wins true = heard_on_x role c k d w wins
heard_by role c k d w wins false = first_heard role c k d w wins

-- the place of another connection
abbrev place_if : Role → Conn → Conn → Place
place_if role c d = if c.0 == d.0 then OnX else OnNew

at_place : (role : Role) (c d : Conn) → place_of (open_as role) ((role, c) ∷ []) d ≡ place_if role c d
at_place Initiated c d = refl
at_place Accepted c d = refl

open_connects : (role : Role) (c : Conn) (k : ℕ) (d : Conn) (wins : Bool) (e : TableEvent) (q : Concern) →
    kept_count k q ≡ Some k →
    LeavesNode role c (kept_count k (if_named (d.0 == c.0) q))
    (by_table (open_node role c k) (connect_event e (place_of (open_as role) ((role, c) ∷ []) d)) (Some d) wins)
open_connects role c k d wins e q kept =
    subst (λ m. LeavesNode role c m
    (by_table (open_node role c k) (connect_event e (place_of (open_as role) ((role, c) ∷ []) d)) (Some d) wins))
    (sym (kept_if k (d.0 == c.0) q kept))
    (subst (λ at. LeavesNode role c (Some k) (by_table (open_node role c k) (connect_event e at) (Some d) wins))
    (sym (at_place role c d)) (connect_by role c k d wins e (c.0 == d.0)))

-- an open node after each input
pub open_step : (role : Role) (c : Conn) (k : ℕ) → IsTrue (nat_le k 2) → (i : Input) (wins : Bool) →
    LeavesNode role c (kept_count k (concern_of i c)) (machine_outcome (open_node role c k) i wins)
open_step Initiated c k few (input.Start d) wins = tt
open_step Accepted c k few (input.Start d) wins = tt
open_step Initiated c k few input.Stop wins = refl
open_step Accepted c k few input.Stop wins = refl
open_step Initiated c k few input.Timeout wins = refl
open_step Accepted c k few input.Timeout wins = refl
open_step Initiated c k few input.Submit wins = refl
open_step Accepted c k few input.Submit wins = refl
open_step role c k few input.Tick wins = at_tick role c k few wins
open_step role c k few (input.Ack d) wins = open_connects role c k d wins table.IRcvConnAck AcksIt refl
open_step role c k few (input.Nack d) wins = open_connects role c k d wins table.IRcvConnNack NacksIt refl
open_step role c k few (input.Gone d) wins =
    subst (λ b. LeavesNode role c (kept_count k (if_named b EndsIt)) (machine_outcome (open_node role c k) (input.Gone d) wins))
    (flip_same c.0 d.0)
    (subst (λ at. LeavesNode role c (kept_count k (if_named (c.0 == d.0) EndsIt))
    (by_table (open_node role c k) (end_event (open_as role) at) (Some d) wins)) (sym (at_place role c d))
    (gone_by role c k d wins (c.0 == d.0)))
open_step role c k few (input.Heard d w) wins =
    subst (λ b. LeavesNode role c (kept_count k (if_named b (HeardOnIt w)))
    (machine_outcome (open_node role c k) (input.Heard d w) wins)) (flip_same c.0 d.0)
    (subst (λ at. LeavesNode role c (kept_count k (if_named (c.0 == d.0) (HeardOnIt w)))
    (by_table (open_node role c k) (message_event (open_as role) w at) (Some d) wins)) (sym (at_place role c d))
    (heard_by role c k d w wins (c.0 == d.0)))

-- a node that is open is such a node, on one connection
pub record OpenForm (n : Node) (c : Conn) : Type 0 where
  pub role : Role
  pub count : ℕ
  pub few : IsTrue (nat_le count 2)
  pub is : n ≡ open_node role c count

not_open : (b : Bool) (a : Hold) → is_open_hold (if b then a else NotHeld) ≡ true → is_open_hold a ≡ false → ⊥
not_open true a e f = cc (e, f)
not_open false a e f = cc e

neither_open : (b d : Bool) (a z : Hold) → is_open_hold (if b then a else (if d then z else NotHeld)) ≡ true →
    is_open_hold a ≡ false → is_open_hold z ≡ false → ⊥
neither_open true d a z e f g = cc (e, f)
neither_open false d a z e f g = not_open d z e g

open_if : (b : Bool) (a : Hold) → is_open_hold (if b then a else NotHeld) ≡ true → b ≡ true
open_if true a e = refl
open_if false a e = cc

pub open_form : (n : Node) → Form n → (c : Conn) → is_open_hold (hold_of n c) ≡ true → OpenForm n c
open_form n (r_open r k few) c e =
    record {
      role = Accepted;
      count = k;
      few = few;
      is = ap (λ x. open_node Accepted x k) (same_conn r c (open_if (r.0 == c.0) OpenAsR e));
    }
open_form n (i_open i k few) c e =
    record {
      role = Initiated;
      count = k;
      few = few;
      is = ap (λ x. open_node Initiated x k) (same_conn i c (open_if (i.0 == c.0) OpenAsI e));
    }
open_form n closed c e = absurd (cc e)
open_form n (wait_conn_ack i) c e = absurd (not_open (i.0 == c.0) Pending e refl)
open_form n (wait_i_cea i) c e = absurd (not_open (i.0 == c.0) Made e refl)
open_form n (wait_conn_ack_elect i r apart) c e =
    absurd (neither_open (i.0 == c.0) (r.0 == c.0) Pending Taken e refl refl)
open_form n (wait_returns i r apart) c e = absurd (neither_open (i.0 == c.0) (r.0 == c.0) Made Taken e refl refl)
open_form n (closing Initiated x) c e = absurd (not_open (x.0 == c.0) ClosingAsI e refl)
open_form n (closing Accepted x) c e = absurd (not_open (x.0 == c.0) ClosingAsR e refl)

pub state_form : (n : Node) → Form n → is_open n.state ≡ true → (x : Conn) × OpenForm n x
state_form n (r_open r k few) e = (r, record { role = Accepted; count = k; few = few; is = refl })
state_form n (i_open i k few) e = (i, record { role = Initiated; count = k; few = few; is = refl })
state_form n closed e = absurd (cc e)
state_form n (wait_conn_ack i) e = absurd (cc e)
state_form n (wait_i_cea i) e = absurd (cc e)
state_form n (wait_conn_ack_elect i r apart) e = absurd (cc e)
state_form n (wait_returns i r apart) e = absurd (cc e)
state_form n (closing role x) e = absurd (cc e)

open_state : (role : Role) (c : Conn) (k : ℕ) → is_open (open_node role c k).state ≡ true
open_state Initiated c k = refl
open_state Accepted c k = refl

-- it is open on this one alone
open_hold : (role : Role) (b : Bool) → is_open_hold (if b then hold_as (open_as role) role else NotHeld) ≡ b
open_hold Initiated true = refl
open_hold Initiated false = refl
open_hold Accepted true = refl
open_hold Accepted false = refl

pub opens_one : (role : Role) (x : Conn) (k : ℕ) (c : Conn) →
    is_open_hold (hold_of (open_node role x k) c) ≡ (x.0 == c.0)
opens_one role x k c = open_hold role (x.0 == c.0)

pub opens_itself : (role : Role) (c : Conn) (k : ℕ) → is_open_hold (hold_of (open_node role c k) c) ≡ true
opens_itself role c k = opens_one role c k c ∙ same_number c.0

pub state_open : (n : Node) → Form n → (c : Conn) → is_open_hold (hold_of n c) ≡ true → is_open n.state ≡ true
state_open n form c e =
    let f = open_form n form c e in
    ap (λ m. is_open m.state) f.is ∙ open_state f.role c f.count

pub none_open : (n : Node) → Form n → (c : Conn) → is_open n.state ≡ false → is_open_hold (hold_of n c) ≡ false
none_open n form c shut = elim (cases_Bool (is_open_hold (hold_of n c))) [
  | inl e ↦ absurd (cc (sym (state_open n form c e) ∙ shut))
  | inr e ↦ e
]

-- after a step
pub step_leaves : (n : Node) → Form n → (c : Conn) → (f : OpenForm n c) → (i : Input) (wins : Bool)
    (commands : List Command) (next : Node) → machine_outcome n i wins ≡ NodeMoved commands next →
    LeftAs f.role c (kept_count n.count (concern_of i c)) next
step_leaves n form c f i wins commands next o =
    subst (LeavesNode f.role c (kept_count n.count (concern_of i c))) o
    (subst (λ (m : Node). LeavesNode f.role c (kept_count m.count (concern_of i c)) (machine_outcome m i wins)) (sym f.is)
    (open_step f.role c f.count f.few i wins))
