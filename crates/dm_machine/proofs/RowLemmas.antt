-- The row that is found stands in the list.
use Rattle.std.proofs.Common.{◌≡◌, Bool, true, false, Option, Some, None, IfSome, IsTrue, List, [], ◌∷◌, Contains, if◌then◌else◌, refl}
use Rattle.std.proofs.lemmas.List.Elements.{Contains-push, Contains-append_left, Contains-append_right}
use Rattle.dm_machine.specs.declared.state_name.State.{State}
use Rattle.dm_machine.specs.Table.{TableEvent, Row}
use Rattle.dm_machine.specs.Rows.{rows, row_in, is_for, HasOneRowEach}

abbrev IsFoundIn : List Row → State → TableEvent → Row → Type 0
IsFoundIn rs s e r = Contains rs r × IsTrue (is_for s e r)

found_further : (r : Row) (rs : List Row) (s : State) (e : TableEvent) (o : Option Row) → IfSome o (IsFoundIn rs s e) →
    IfSome o (IsFoundIn (r ∷ rs) s e)
found_further r rs s e None h = tt
found_further r rs s e (Some x) h = (Contains-append_right (r ∷ []) rs x h.0, h.1)

found_at : (r : Row) (rs : List Row) (s : State) (e : TableEvent) (b : Bool) → is_for s e r ≡ b →
    IfSome (row_in rs s e) (IsFoundIn rs s e) → IfSome (if b then Some r else row_in rs s e) (IsFoundIn (r ∷ rs) s e)
found_at r rs s e true is h = (Contains-append_left (r ∷ []) rs r (Contains-push [] r), is)
found_at r rs s e false is h = found_further r rs s e (row_in rs s e) h

found_in : (rs : List Row) (s : State) (e : TableEvent) → IfSome (row_in rs s e) (IsFoundIn rs s e)
found_in [] s e = tt
found_in (r ∷ rs) s e = found_at r rs s e (is_for s e r) refl (found_in rs s e)

pub has_one_row_each : HasOneRowEach
has_one_row_each = record { apart = refl; found = found_in rows }
