-- What goes through an open connection: by the forms of a node and the listed changes.
use Rattle.std.proofs.Common.{◌≡◌, Bool, true, false, ◌&&◌, ◌==◌, if◌then◌else◌, Some, [], ◌∷◌, IsTrue, refl, sym, subst, ap, ◌∙◌}
use Rattle.std.proofs.lemmas.Bool.{and_parts}
use Rattle.dm_machine.specs.declared.connection.Conn.{Conn}
use Rattle.dm_machine.specs.declared.phase.Role.TheVariants.{Initiated, Accepted}
use Rattle.dm_machine.specs.declared.inputs.Input.{Input}
use Rattle.dm_machine.specs.declared.inputs.Input.TheVariants.{Heard}
use Rattle.dm_machine.specs.declared.inputs.Word.TheVariants.{Cer, Other}
use Rattle.dm_machine.specs.declared.outputs.Command.TheVariants.{Up}
use Rattle.dm_machine.specs.Table.{XRcvMessage}
use Rattle.dm_machine.specs.Node.{Node, node_at}
use Rattle.dm_machine.specs.Forms.{Form, closed, wait_conn_ack, wait_i_cea, wait_conn_ack_elect, wait_returns, r_open, i_open, closing}
use Rattle.dm_machine.specs.Reading.{Place, OnX, OnNew, place_of, place_in, message_event, conn_named}
use Rattle.dm_machine.specs.Moves.{NodeOutcome, NodeMoved, NodeRefused, is_open, machine_outcome, by_table}
use Rattle.dm_machine.specs.Connection.{Hold, NotHeld, Pending, Made, OpenAsI, ClosingAsI, Taken, OpenAsR, ClosingAsR, hold_of, SendsSubmit}
use Rattle.dm_machine.specs.Openings.{has_order}
use Rattle.dm_machine.specs.Upward.{is_open_hold, is_submitted, SubmitsWhereOpen, has_up, IsHeardOpen, UpIsHeard, HandsUpWhereOpen, HandsUpEach, OpenOnOne}
use Rattle.dm_machine.proofs.FormLemmas.{form_of}
use Rattle.dm_machine.specs.EachStep.{StepTest, everywhere, passes_of}
use Rattle.dm_machine.proofs.Ordered.{same_conn}
use Rattle.dm_machine.proofs.EachStepLaw.{each_step_holds}
use Rattle.dm_machine.proofs.Steps.{when, is_when}
use Rattle.dm_machine.proofs.OpeningLaw.{SeenTest, from_agreed}
use Rattle.dm_machine.proofs.UnreadLaw.{place_at, placed}

abbrev sends_submit : SeenTest
sends_submit k before after orders = has_order SendsSubmit orders

abbrev is_due : SeenTest
is_due k before after orders = is_submitted k && is_open_hold before

pub submits : SubmitsWhereOpen
unfolding everywhere
submits = from_agreed sends_submit is_due refl

-- what isn't open
not_open : (b : Bool) (a : Hold) → is_open_hold (if b then a else NotHeld) ≡ true → is_open_hold a ≡ false → ⊥
not_open true a e f = cc (e, f)
not_open false a e f = cc e

neither_open : (b d : Bool) (a z : Hold) → is_open_hold (if b then a else (if d then z else NotHeld)) ≡ true →
    is_open_hold a ≡ false → is_open_hold z ≡ false → ⊥
neither_open true d a z e f g = cc (e, f)
neither_open false d a z e f g = not_open d z e g

open_if : (b : Bool) (a : Hold) → is_open_hold (if b then a else NotHeld) ≡ true → b ≡ true
open_if true a e = refl
open_if false a e = cc

-- each message goes up
up_at : (n : Node) → Form n → (c : Conn) (wins : Bool) → is_open_hold (hold_of n c) ≡ true →
    by_table n XRcvMessage (Some c) wins ≡ NodeMoved (Up ∷ []) (node_at n.state n.held 0)
up_at n (r_open r k few) c wins e = refl
up_at n (i_open i k few) c wins e = refl
up_at n closed c wins e = cc
up_at n (wait_conn_ack i) c wins e = absurd (not_open (i.0 == c.0) Pending e refl)
up_at n (wait_i_cea i) c wins e = absurd (not_open (i.0 == c.0) Made e refl)
up_at n (wait_conn_ack_elect i r apart) c wins e =
    absurd (neither_open (i.0 == c.0) (r.0 == c.0) Pending Taken e refl refl)
up_at n (wait_returns i r apart) c wins e = absurd (neither_open (i.0 == c.0) (r.0 == c.0) Made Taken e refl refl)
up_at n (closing Initiated x) c wins e = absurd (not_open (x.0 == c.0) ClosingAsI e refl)
up_at n (closing Accepted x) c wins e = absurd (not_open (x.0 == c.0) ClosingAsR e refl)

open_place : (h : Hold) → is_open_hold h ≡ true → place_at h ≡ OnX
open_place OpenAsI e = refl
open_place OpenAsR e = refl
open_place _ e = cc

pub hands_up_each : HandsUpEach
hands_up_each n c wins shaped e =
    ap (λ (p : Place). by_table n (message_event n.state Other p) (Some c) wins)
    (placed n c (hold_of n c) refl ∙ open_place (hold_of n c) e) ∙ up_at n (form_of n shaped) c wins e

-- nothing else does
abbrev goes_up : NodeOutcome → Bool
goes_up (NodeMoved commands next) = has_up commands
goes_up (NodeRefused r) = false

abbrev is_x : Place → Bool
is_x OnX = true
is_x _ = false

abbrev is_other : Input → Bool
is_other (Heard c Other) = true
is_other _ = false

abbrev is_up_heard : StepTest
is_up_heard n at i o = when (goes_up o) (is_open n.state && (is_x at && is_other i))

up_heard : (i r c : Conn) → IsTrue (passes_of is_up_heard i r c)
unfolding everywhere
up_heard i r c = refl

heard_other : (i : Input) → is_other i ≡ true → (c : Conn) × (i ≡ Heard c Other)
heard_other (Heard c Other) e = (c, refl)
heard_other (Heard c Cer) e = absurd (cc e)
heard_other (Heard c _) e = absurd (cc e)
heard_other _ e = absurd (cc e)

held_at : (b : Bool) (a : Hold) (p : Place) → is_x (if b then p else OnNew) ≡ true → is_open_hold a ≡ true →
    is_open_hold (if b then a else NotHeld) ≡ true
held_at true a p e o = o
held_at false a p e o = cc

opened_at : (n : Node) → Form n → (c : Conn) → is_open n.state ≡ true → is_x (place_of n.state n.held c) ≡ true →
    is_open_hold (hold_of n c) ≡ true
opened_at n (r_open r k few) c e at = held_at (r.0 == c.0) OpenAsR OnX at refl
opened_at n (i_open i k few) c e at = held_at (i.0 == c.0) OpenAsI OnX at refl
opened_at n closed c e at = cc
opened_at n (wait_conn_ack i) c e at = cc
opened_at n (wait_i_cea i) c e at = cc
opened_at n (wait_conn_ack_elect i r apart) c e at = cc
opened_at n (wait_returns i r apart) c e at = cc
opened_at n (closing role x) c e at = cc

heard_open : (n : Node) → Form n → (i : Input) →
    (is_open n.state && (is_x (place_in n (conn_named i)) && is_other i)) ≡ true → IsHeardOpen n i
heard_open n f i e =
    let at = place_in n (conn_named i) in
    let both = and_parts (is_open n.state) (is_x at && is_other i) e in
    let here = and_parts (is_x at) (is_other i) both.1 in
    let other = heard_other i here.1 in
    record {
      conn = other.0;
      heard = other.1;
      opened = opened_at n f other.0 both.0
          (subst (λ (j : Input). is_x (place_in n (conn_named j)) ≡ true) other.1 here.0);
    }

by_outcome : (n : Node) → Form n → (i : Input) (o : NodeOutcome) → is_up_heard n (place_in n (conn_named i)) i o ≡ true →
    UpIsHeard n i o
by_outcome n f i (NodeMoved commands next) e =
    λ up. heard_open n f i
    (is_when (has_up commands) (is_open n.state && (is_x (place_in n (conn_named i)) && is_other i)) e up)
by_outcome n f i (NodeRefused r) e = tt

pub hands_up : HandsUpWhereOpen
hands_up n i wins shaped =
    by_outcome n (form_of n shaped) i (machine_outcome n i wins) (each_step_holds is_up_heard up_heard n i wins shaped)

-- and there is one open connection at most
one_at : (n : Node) → Form n → (c d : Conn) → is_open_hold (hold_of n c) ≡ true → is_open_hold (hold_of n d) ≡ true →
    c ≡ d
one_at n (r_open r k few) c d e f =
    sym (same_conn r c (open_if (r.0 == c.0) OpenAsR e)) ∙ same_conn r d (open_if (r.0 == d.0) OpenAsR f)
one_at n (i_open i k few) c d e f =
    sym (same_conn i c (open_if (i.0 == c.0) OpenAsI e)) ∙ same_conn i d (open_if (i.0 == d.0) OpenAsI f)
one_at n closed c d e f = cc
one_at n (wait_conn_ack i) c d e f = absurd (not_open (i.0 == c.0) Pending e refl)
one_at n (wait_i_cea i) c d e f = absurd (not_open (i.0 == c.0) Made e refl)
one_at n (wait_conn_ack_elect i r apart) c d e f =
    absurd (neither_open (i.0 == c.0) (r.0 == c.0) Pending Taken e refl refl)
one_at n (wait_returns i r apart) c d e f = absurd (neither_open (i.0 == c.0) (r.0 == c.0) Made Taken e refl refl)
one_at n (closing Initiated x) c d e f = absurd (not_open (x.0 == c.0) ClosingAsI e refl)
one_at n (closing Accepted x) c d e f = absurd (not_open (x.0 == c.0) ClosingAsR e refl)

pub one_open : OpenOnOne
one_open n c d shaped e f = one_at n (form_of n shaped) c d e f
