-- A step sends a message of the user at a Submit alone.
use Rattle.std.proofs.Common.{◌≡◌, ℕ, ◌==◌, Bool, true, false, not, ◌||◌, Option, None, Some, List, [], ◌∷◌, ◌++◌, if◌then◌else◌, refl, arith}
use Rattle.std.specs.Prelude.{⊤}
use Rattle.std.specs.List.{list_all}
use Rattle.std.proofs.lemmas.Bool.{and_parts, and_from}
use Rattle.std.proofs.lemmas.Bool.Decides.{nat_tests}
use Rattle.dm_machine.specs.declared.connection.Conn.{Conn}
use Rattle.dm_machine.specs.declared.phase.Role.{Role}
use Rattle.dm_machine.specs.declared.phase.Role.TheVariants.{Initiated, Accepted}
use Rattle.dm_machine.specs.declared.state_name.State.{State}
use Rattle.dm_machine.specs.declared.state_name.State.TheVariants.{WaitICea, WaitReturns}
use Rattle.dm_machine.specs.declared.inputs.Input.{Input}
use Rattle.dm_machine.specs.declared.inputs.Input.TheVariants as input
use Rattle.dm_machine.specs.declared.inputs.Word.{Word}
use Rattle.dm_machine.specs.declared.inputs.Word.TheVariants.{Unreadable, Cer, CerRefused, Cea, CeaFailed}
use Rattle.dm_machine.specs.declared.outputs.Command.{Command}
use Rattle.dm_machine.specs.declared.outputs.Command.TheVariants as command
use Rattle.dm_machine.specs.Table.{TableEvent, IRcvConnAck, IRcvConnNack, WinElection, SendMessage, Act, ISndConnReq, RAccept, RSndCea, ISndCer, Cleanup, Elect, Error, IDisc, RDisc, RReject, XSndMessage, Up, XSndDwa, XSndDpr, XSndDpa, XDisc, RSndRefusal, XSndRefusal, XSndDwr, Row}
use Rattle.dm_machine.specs.Table as table
use Rattle.dm_machine.specs.Node.{Node, held_as, only_held}
use Rattle.dm_machine.specs.Reading.{Place, OnI, OnR, OnX, OnNew, place_of, first_message, message_on_i, message_on_x, message_event, end_event, connect_event, conn_named, event_of}
use Rattle.dm_machine.specs.Rows.{rows, event_code, is_for, row_in, state_code}
use Rattle.dm_machine.specs.Moves.{NodeOutcome, NodeMoved, NodeRefused, to_one, commands_of, held_after, all_commands, held_at, by_no_row, by_event, raises_win, after_commands, then_won, machine_outcome}

abbrev pub is_plain : Command → Bool
is_plain (command.SendSubmit c) = false
is_plain _ = true

abbrev pub are_plain : List Command → Bool
are_plain commands = list_all is_plain commands

one_plain : (make : Conn → Command) → ((c : Conn) → is_plain (make c) ≡ true) → (o : Option Conn) →
    are_plain (to_one make o) ≡ true
one_plain make each None = refl
one_plain make each (Some c) = and_from (is_plain (make c)) true (each c) refl

both_plain : (one more : List Command) → are_plain one ≡ true → are_plain more ≡ true →
    are_plain (one ++ more) ≡ true
both_plain [] more a b = b
both_plain (c ∷ one) more a b =
    let parts = and_parts (is_plain c) (are_plain one) a in
    and_from (is_plain c) (are_plain (one ++ more)) parts.0 (both_plain one more parts.1 b)

-- the acts that send none
abbrev is_send : Act → Bool
is_send XSndMessage = true
is_send _ = false

abbrev send_none : List Act → Bool
send_none acts = list_all (λ a. not (is_send a)) acts

act_plain : (a : Act) → not (is_send a) ≡ true → (new : Option Conn) (held : List (Role × Conn)) →
    are_plain (commands_of a new held) ≡ true
act_plain XSndMessage e new held = cc
act_plain ISndConnReq e new held = one_plain command.Connect (λ c. refl) new
act_plain RAccept e new held = refl
act_plain RSndCea e new held = one_plain command.SendCea (λ c. refl) (held_as Accepted held)
act_plain ISndCer e new held = one_plain command.SendCer (λ c. refl) (held_as Initiated held)
act_plain Cleanup e new held = refl
act_plain Elect e new held = refl
act_plain Error e new held =
    both_plain (to_one command.Close (held_as Initiated held)) (to_one command.Close (held_as Accepted held))
    (one_plain command.Close (λ c. refl) (held_as Initiated held))
    (one_plain command.Close (λ c. refl) (held_as Accepted held))
act_plain IDisc e new held = one_plain command.Close (λ c. refl) (held_as Initiated held)
act_plain RDisc e new held = one_plain command.Close (λ c. refl) (held_as Accepted held)
act_plain RReject e new held = one_plain command.Close (λ c. refl) new
act_plain Up e new held = refl
act_plain XSndDwa e new held = one_plain command.SendDwa (λ c. refl) (only_held held)
act_plain XSndDpr e new held = one_plain command.SendDpr (λ c. refl) (only_held held)
act_plain XSndDpa e new held = one_plain command.SendDpa (λ c. refl) (only_held held)
act_plain XDisc e new held = one_plain command.Close (λ c. refl) (only_held held)
act_plain RSndRefusal e new held = one_plain command.SendRefusal (λ c. refl) new
act_plain XSndRefusal e new held = one_plain command.SendRefusal (λ c. refl) (only_held held)
act_plain XSndDwr e new held = one_plain command.SendDwr (λ c. refl) (only_held held)

acts_plain : (acts : List Act) → send_none acts ≡ true → (new : Option Conn) (held : List (Role × Conn)) →
    are_plain (all_commands acts new held) ≡ true
acts_plain [] e new held = refl
acts_plain (a ∷ acts) e new held =
    let parts = and_parts (not (is_send a)) (send_none acts) e in
    both_plain (commands_of a new held) (all_commands acts new (held_after a new held))
    (act_plain a parts.0 new held) (acts_plain acts parts.1 new (held_after a new held))

-- a row with such an act is for that event
abbrev is_fine : Row → Bool
is_fine r = send_none r.acts || (event_code r.event == 10)

rows_fine : list_all is_fine rows ≡ true
rows_fine = refl

abbrev PlainRow : Option Row → Type 0
PlainRow None = ⊤
PlainRow (Some r) = send_none r.acts ≡ true

no_send : (none : Bool) (a b : ℕ) → (none || (a == 10)) ≡ true → (a == b) ≡ true → (b == 10) ≡ false → none ≡ true
no_send true a b fine same other = refl
no_send false a b fine same other = absurd (apart a b fine same other)
  where
    apart : (a b : ℕ) → (a == 10) ≡ true → (a == b) ≡ true → (b == 10) ≡ false → ⊥
    apart a b fine same other = grind (arith, nat_tests)

row_plain : (rs : List Row) → list_all is_fine rs ≡ true → (s : State) (e : TableEvent) →
    (event_code e == 10) ≡ false → PlainRow (row_in rs s e)
row_plain [] fine s e other = tt
row_plain (r ∷ rs) fine s e other =
    let parts = and_parts (is_fine r) (list_all is_fine rs) fine in
    by_row (is_for s e r) refl parts.0 (row_plain rs parts.1 s e other)
  where
    by_row : (b : Bool) → is_for s e r ≡ b → is_fine r ≡ true → PlainRow (row_in rs s e) →
        PlainRow (if b then Some r else row_in rs s e)
    by_row true is fine_here more =
        let same = and_parts (state_code r.from == state_code s) (event_code r.event == event_code e) is in
        no_send (send_none r.acts) (event_code r.event) (event_code e) fine_here same.1 other
    by_row false is fine_here more = more

-- the event of another input than a Submit isn't that one
on_i : (s : State) (w : Word) → (event_code (message_on_i s w) == 10) ≡ false
on_i WaitICea Cea = refl
on_i WaitICea CeaFailed = refl
on_i WaitICea Unreadable = refl
on_i WaitICea _ = refl
on_i WaitReturns Cea = refl
on_i WaitReturns _ = refl
on_i _ w = refl

on_x : (w : Word) → (event_code (message_on_x w) == 10) ≡ false
on_x Cer = refl
on_x _ = refl

on_new : (w : Word) → (event_code (first_message w) == 10) ≡ false
on_new Cer = refl
on_new CerRefused = refl
on_new _ = refl

on_message : (s : State) (w : Word) (place : Place) → (event_code (message_event s w place) == 10) ≡ false
on_message s w OnI = on_i s w
on_message s w OnR = refl
on_message s w OnX = on_x w
on_message s w OnNew = on_new w

on_tick : (zero one : Bool) →
    (event_code (if zero then table.FirstTick else
    (if one then table.SecondTick else table.ThirdTick)) == 10) ≡ false
on_tick true one = refl
on_tick false true = refl
on_tick false false = refl

on_connect : (e : TableEvent) (place : Place) → (event_code e == 10) ≡ false →
    (event_code (connect_event e place) == 10) ≡ false
on_connect e OnI is = is
on_connect e _ is = refl

on_end : (s : State) (place : Place) → (event_code (end_event s place) == 10) ≡ false
on_end WaitICea OnI = refl
on_end _ OnI = refl
on_end s OnR = refl
on_end s OnX = refl
on_end s OnNew = refl

abbrev pub is_submit_input : Input → Bool
is_submit_input input.Submit = true
is_submit_input _ = false

no_submit : (n : Node) (i : Input) → is_submit_input i ≡ false → (event_code (event_of n i) == 10) ≡ false
no_submit n (input.Heard c w) is = on_message n.state w (place_of n.state n.held c)
no_submit n (input.Start c) is = refl
no_submit n input.Stop is = refl
no_submit n input.Timeout is = refl
no_submit n input.Tick is = on_tick (n.count == 0) (n.count == 1)
no_submit n (input.Ack c) is = on_connect IRcvConnAck (place_of n.state n.held c) refl
no_submit n (input.Nack c) is = on_connect IRcvConnNack (place_of n.state n.held c) refl
no_submit n (input.Gone c) is = on_end n.state (place_of n.state n.held c)
no_submit n input.Submit is = cc

-- the outcome
abbrev pub PlainOutcome : NodeOutcome → Type 0
PlainOutcome (NodeMoved commands next) = are_plain commands ≡ true
PlainOutcome (NodeRefused r) = ⊤

none_plain : (n : Node) (e : TableEvent) → PlainOutcome (by_no_row n e)
none_plain n table.Start = tt
none_plain n table.Stop = tt
none_plain n SendMessage = tt
none_plain n _ = refl

event_plain : (found : Option Row) → PlainRow found → (n : Node) (e : TableEvent) (new : Option Conn) →
    PlainOutcome (by_event found n e new)
event_plain None plain n e new = none_plain n e
event_plain (Some r) plain n e new = acts_plain r.acts plain new (held_at e n.held)

after_plain : (before : List Command) (o : NodeOutcome) → are_plain before ≡ true → PlainOutcome o →
    PlainOutcome (after_commands before o)
after_plain before (NodeRefused r) a b = tt
after_plain before (NodeMoved more n) a b = both_plain before more a b

won_plain : (o : NodeOutcome) → PlainOutcome o → PlainOutcome (then_won o)
won_plain (NodeRefused r) plain = tt
won_plain (NodeMoved before n) plain =
    after_plain before (by_event (row_in rows n.state WinElection) n WinElection None) plain
    (event_plain (row_in rows n.state WinElection) (row_plain rows rows_fine n.state WinElection refl)
    n WinElection None)

either_plain : (b : Bool) (o : NodeOutcome) → PlainOutcome o → PlainOutcome (if b then then_won o else o)
either_plain true o plain = won_plain o plain
either_plain false o plain = plain

pub outcome_plain : (n : Node) (i : Input) (wins : Bool) → is_submit_input i ≡ false → PlainOutcome (machine_outcome n i wins)
outcome_plain n i wins other =
    let e = event_of n i in
    let found = row_in rows n.state e in
    either_plain (raises_win found wins) (by_event found n e (conn_named i))
    (event_plain found (row_plain rows rows_fine n.state e (no_submit n i other)) n e (conn_named i))
