-- A side that wins its elections doesn't come to wait for the other's disconnect.
use Rattle.std.proofs.Common.{◌≡◌, ℕ, ◌==◌, Bool, true, false, not, ◌&&◌, ◌||◌, if◌then◌else◌, Option, Some, None, List}
use Rattle.std.proofs.Common.{[], ◌∷◌, refl, sym, subst, ◌∙◌, arith}
use Rattle.std.specs.Prelude.{⊤}
use Rattle.std.specs.List.{list_all}
use Rattle.std.proofs.lemmas.Bool.{and_parts}
use Rattle.std.proofs.lemmas.Bool.Decides.{nat_tests}
use Rattle.dm_machine.specs.declared.connection.Conn.{Conn}
use Rattle.dm_machine.specs.declared.phase.Role.{Role}
use Rattle.dm_machine.specs.declared.state_name.State.{State}
use Rattle.dm_machine.specs.declared.state_name.State.TheVariants.{WaitReturns}
use Rattle.dm_machine.specs.declared.inputs.Input.{Input}
use Rattle.dm_machine.specs.declared.outputs.Command.{Command}
use Rattle.dm_machine.specs.Table.{TableEvent, WinElection, SendMessage, Row}
use Rattle.dm_machine.specs.Table as table
use Rattle.dm_machine.specs.Node.{Node, node_at}
use Rattle.dm_machine.specs.Reading.{conn_named, event_of}
use Rattle.dm_machine.specs.Rows.{rows, event_code, is_for, row_in, state_code}
use Rattle.dm_machine.specs.Moves.{NodeOutcome, NodeMoved, NodeRefused, by_no_row, by_event, has_elect, raises_win, after_commands}
use Rattle.dm_machine.specs.Moves.{then_won, machine_outcome}
use Rattle.dm_two_peers.specs.Joining.{is_returning, WinnerDoesNotReturn}

-- by the number of the state
abbrev has_returned : State → Bool
has_returned s = state_code s == 4

-- an election leads there, and nothing else but what is there
abbrev is_fine : Row → Bool
is_fine r = if has_elect r.acts then has_returned r.next else (not (has_returned r.next) || has_returned r.from)

rows_fine : list_all is_fine rows ≡ true
rows_fine = refl

abbrev FineRow : State → Option Row → Type 0
FineRow s None = ⊤
FineRow s (Some r) = (is_fine r ≡ true) × ((state_code r.from == state_code s) ≡ true)

row_fine : (rs : List Row) → list_all is_fine rs ≡ true → (s : State) (e : TableEvent) → FineRow s (row_in rs s e)
row_fine [] fine s e = tt
row_fine (r ∷ rs) fine s e =
    let parts = and_parts (is_fine r) (list_all is_fine rs) fine in
    by_test (is_for s e r) refl parts.0 (row_fine rs parts.1 s e)
  where
    by_test : (b : Bool) → is_for s e r ≡ b → is_fine r ≡ true → FineRow s (row_in rs s e) →
        FineRow s (if b then Some r else row_in rs s e)
    by_test true is here more =
        (here, (and_parts (state_code r.from == state_code s) (event_code r.event == event_code e) is).0)
    by_test false is here more = more

abbrev IsElsewhere : NodeOutcome → Type 0
IsElsewhere (NodeMoved commands next) = has_returned next.state ≡ false
IsElsewhere (NodeRefused r) = ⊤

none_fine : (n : Node) (e : TableEvent) → has_returned n.state ≡ false → IsElsewhere (by_no_row n e)
none_fine n table.Start h = tt
none_fine n table.Stop h = tt
none_fine n SendMessage h = tt
none_fine n _ h = h

won_fine : (before : List Command) (s : State) (held : List (Role × Conn)) (k : ℕ) → has_returned s ≡ true →
    IsElsewhere (after_commands before (by_event (row_in rows s WinElection) (node_at s held k) WinElection None))
won_fine before WaitReturns held k h = refl
won_fine before _ held k h = cc

not_there : (x y : Bool) → (not x || y) ≡ true → y ≡ false → x ≡ false
not_there false y h e = refl
not_there true y h e = cc

same_code : (a b : ℕ) → (a == b) ≡ true → (b == 4) ≡ false → (a == 4) ≡ false
same_code a b h e = grind (arith, nat_tests)

fine_by : (r : Row) (n : Node) (e : TableEvent) (new : Option Conn) → has_returned n.state ≡ false →
    (state_code r.from == state_code n.state) ≡ true → (b : Bool) →
    (if b then has_returned r.next else (not (has_returned r.next) || has_returned r.from)) ≡ true →
    IsElsewhere (if b && true then then_won (by_event (Some r) n e new) else by_event (Some r) n e new)
fine_by r n e new away at true h = won_fine _ r.next _ _ h
fine_by r n e new away at false h = not_there (has_returned r.next) (has_returned r.from) h
    (same_code (state_code r.from) (state_code n.state) at away)

found_fine : (n : Node) (e : TableEvent) (new : Option Conn) → has_returned n.state ≡ false → (found : Option Row) →
    FineRow n.state found →
    IsElsewhere (if raises_win found true then then_won (by_event found n e new) else by_event found n e new)
found_fine n e new away None fine = none_fine n e away
found_fine n e new away (Some r) fine = fine_by r n e new away fine.1 (has_elect r.acts) fine.0

winner_elsewhere : (n : Node) (i : Input) → has_returned n.state ≡ false → IsElsewhere (machine_outcome n i true)
winner_elsewhere n i away =
    let e = event_of n i in
    found_fine n e (conn_named i) away (row_in rows n.state e) (row_fine rows rows_fine n.state e)

by_code : (s : State) → is_returning s ≡ has_returned s
by_code WaitReturns = refl
by_code _ = refl

pub winner_does_not_return_proof : WinnerDoesNotReturn
winner_does_not_return_proof n next i commands away moves =
    by_code next.state ∙ subst (λ o. IsElsewhere o) moves (winner_elsewhere n i (sym (by_code n.state) ∙ away))
