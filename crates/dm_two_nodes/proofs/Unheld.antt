-- What comes on a connection that a node doesn't hold: the node takes it up, refuses it, or stays what it is.
use Rattle.std.proofs.Common.{◌≡◌, ◌==◌, Bool, true, false, if◌then◌else◌, Option, Some, None, List, [], ◌∷◌, refl, sym, ap, subst, ◌∙◌}
use Rattle.dm_machine.specs.declared.connection.Conn.{Conn}
use Rattle.dm_machine.specs.declared.phase.Role.{Role}
use Rattle.dm_machine.specs.declared.phase.Role.TheVariants.{Initiated, Accepted}
use Rattle.dm_machine.specs.declared.state_name.State.{State}
use Rattle.dm_machine.specs.declared.state_name.State.TheVariants.{WaitConnAck, WaitConnAckElect, ROpen, IOpen, Closing}
use Rattle.dm_machine.specs.declared.inputs.Input.{Input}
use Rattle.dm_machine.specs.declared.inputs.Input.TheVariants.{Start, Ack, Nack, Gone, Heard}
use Rattle.dm_machine.specs.declared.inputs.Word.{Word}
use Rattle.dm_machine.specs.declared.inputs.Word.TheVariants.{Cer, CerRefused}
use Rattle.dm_machine.specs.declared.outputs.Command.{Command}
use Rattle.dm_machine.specs.declared.outputs.Refusal.{Refusal}
use Rattle.dm_machine.specs.Node.{Node, is_shaped}
use Rattle.dm_machine.specs.Forms.{Form, closed, wait_conn_ack, wait_i_cea, wait_conn_ack_elect, wait_returns, r_open, i_open, closing, EachShapeIsAForm}
use Rattle.dm_machine.specs.Reading.{Place, OnNew, place_as, place_of, place_in, conn_named, event_at, first_message}
use Rattle.dm_machine.specs.Table.{NoEvent}
use Rattle.dm_machine.specs.Connection.{Hold, NotHeld, Pending, Made, Taken, OpenAsR, hold_as, hold_in, hold_of}
use Rattle.dm_machine.specs.Moves.{NodeOutcome, NodeMoved, NodeRefused, by_table, machine_outcome}
use Rattle.dm_machine.specs.Upward.{has_up}
use Rattle.dm_peer.specs.Holding.{is_held}
use Rattle.dm_peer.specs.After.{request_in}
use Rattle.dm_two_nodes.proofs.Numbered.{equal_numbers}

pub data Passed (n : Node) (c : Conn) : NodeOutcome → Type 0 where
  left_it : (commands : List Command) → request_in commands ≡ None → has_up commands ≡ false →
      Passed n c (NodeMoved commands n)
  took_it : (commands : List Command) (next : Node) → is_held (hold_of next c) ≡ true →
      Passed n c (NodeMoved commands next)
  refused_it : (r : Refusal) → Passed n c (NodeRefused r)

-- where it stands among those held
never_not_held : (s : State) (role : Role) → hold_as s role ≡ NotHeld → ⊥
never_not_held ROpen role is = cc
never_not_held IOpen role is = cc
never_not_held Closing Initiated is = cc
never_not_held Closing Accepted is = cc
never_not_held WaitConnAck Initiated is = cc
never_not_held WaitConnAckElect Initiated is = cc
never_not_held _ Initiated is = cc
never_not_held _ Accepted is = cc

placed_if : (s : State) (role : Role) (b : Bool) (at : Place) (hold : Hold) → (hold ≡ NotHeld → at ≡ OnNew) →
    (if b then hold_as s role else hold) ≡ NotHeld → (if b then place_as s role else at) ≡ OnNew
placed_if s role true at hold so is = absurd (never_not_held s role is)
placed_if s role false at hold so is = so is

placed : (s : State) (held : List (Role × Conn)) (c : Conn) → hold_in s held c ≡ NotHeld → place_of s held c ≡ OnNew
placed s [] c is = refl
placed s (p ∷ ps) c is =
    placed_if s p.0 (p.1.0 == c.0) (place_of s ps c) (hold_in s ps c) (placed s ps c) is

-- it is held then as the first, or as the second
held_first : (c : Conn) (hold : Hold) → is_held hold ≡ true → is_held (if c.0 == c.0 then hold else NotHeld) ≡ true
held_first c hold is =
    subst (λ b. is_held (if b then hold else NotHeld) ≡ true) (sym (equal_numbers c.0 c.0 refl)) is

held_if : (b : Bool) (one other : Hold) → is_held one ≡ true → is_held other ≡ true →
    is_held (if b then one else other) ≡ true
held_if true one other is also = is
held_if false one other is also = also

held_second : (i c : Conn) (one hold : Hold) → is_held one ≡ true → is_held hold ≡ true →
    is_held (if i.0 == c.0 then one else (if c.0 == c.0 then hold else NotHeld)) ≡ true
held_second i c one hold is also =
    held_if (i.0 == c.0) one (if c.0 == c.0 then hold else NotHeld) is (held_first c hold also)

started : (n : Node) → Form n → (c : Conn) (wins : Bool) →
    Passed n c (by_table n (event_at n.state n.count OnNew (Start c)) (Some c) wins)
started n closed c wins = took_it _ _ (held_first c Pending refl)
started n (wait_conn_ack i) c wins = refused_it _
started n (wait_i_cea i) c wins = refused_it _
started n (wait_conn_ack_elect i r apart) c wins = refused_it _
started n (wait_returns i r apart) c wins = refused_it _
started n (r_open r k few) c wins = refused_it _
started n (i_open i k few) c wins = refused_it _
started n (closing role x) c wins = refused_it _

heard : (n : Node) → Form n → (c : Conn) (wins : Bool) (w : Word) →
    Passed n c (by_table n (first_message w) (Some c) wins)
heard n closed c wins Cer = took_it _ _ (held_first c OpenAsR refl)
heard n closed c wins CerRefused = left_it _ refl refl
heard n closed c wins _ = left_it _ refl refl
heard n (wait_conn_ack i) c wins Cer = took_it _ _ (held_second i c Pending Taken refl refl)
heard n (wait_conn_ack i) c wins CerRefused = left_it _ refl refl
heard n (wait_conn_ack i) c wins _ = left_it _ refl refl
heard n (wait_i_cea i) c true Cer = took_it _ _ (held_first c OpenAsR refl)
heard n (wait_i_cea i) c false Cer = took_it _ _ (held_second i c Made Taken refl refl)
heard n (wait_i_cea i) c wins CerRefused = left_it _ refl refl
heard n (wait_i_cea i) c wins _ = left_it _ refl refl
heard n (wait_conn_ack_elect i r apart) c wins Cer = left_it _ refl refl
heard n (wait_conn_ack_elect i r apart) c wins CerRefused = left_it _ refl refl
heard n (wait_conn_ack_elect i r apart) c wins _ = left_it _ refl refl
heard n (wait_returns i r apart) c wins Cer = left_it _ refl refl
heard n (wait_returns i r apart) c wins CerRefused = left_it _ refl refl
heard n (wait_returns i r apart) c wins _ = left_it _ refl refl
heard n (r_open r k few) c wins Cer = left_it _ refl refl
heard n (r_open r k few) c wins CerRefused = left_it _ refl refl
heard n (r_open r k few) c wins _ = left_it _ refl refl
heard n (i_open i k few) c wins Cer = left_it _ refl refl
heard n (i_open i k few) c wins CerRefused = left_it _ refl refl
heard n (i_open i k few) c wins _ = left_it _ refl refl
heard n (closing role x) c wins Cer = left_it _ refl refl
heard n (closing role x) c wins CerRefused = left_it _ refl refl
heard n (closing role x) c wins _ = left_it _ refl refl

ended : (n : Node) → Form n → (c : Conn) (wins : Bool) → Passed n c (by_table n NoEvent (Some c) wins)
ended n closed c wins = left_it _ refl refl
ended n (wait_conn_ack i) c wins = left_it _ refl refl
ended n (wait_i_cea i) c wins = left_it _ refl refl
ended n (wait_conn_ack_elect i r apart) c wins = left_it _ refl refl
ended n (wait_returns i r apart) c wins = left_it _ refl refl
ended n (r_open r k few) c wins = left_it _ refl refl
ended n (i_open i k few) c wins = left_it _ refl refl
ended n (closing role x) c wins = left_it _ refl refl

passed_at : (n : Node) → Form n → (c : Conn) (wins : Bool) (i : Input) → conn_named i ≡ Some c →
    Passed n c (by_table n (event_at n.state n.count OnNew i) (Some c) wins)
passed_at n form c wins (Start d) is = started n form c wins
passed_at n form c wins (Ack d) is = ended n form c wins
passed_at n form c wins (Nack d) is = ended n form c wins
passed_at n form c wins (Gone d) is = ended n form c wins
passed_at n form c wins (Heard d w) is = heard n form c wins w
passed_at n form c wins _ is = absurd (cc)

-- what comes on a connection that isn't held
pub passed : EachShapeIsAForm → (n : Node) (c : Conn) (wins : Bool) (i : Input) → is_shaped n ≡ true →
    conn_named i ≡ Some c → hold_of n c ≡ NotHeld → Passed n c (machine_outcome n i wins)
passed forms n c wins i shaped named free =
    subst (Passed n c)
    (sym (ap (λ (o : Option Conn). by_table n (event_at n.state n.count (place_in n o) i) o wins) named
    ∙ ap (λ (at : Place). by_table n (event_at n.state n.count at i) (Some c) wins) (placed n.state n.held c free)))
    (passed_at n (forms n shaped) c wins i named)
