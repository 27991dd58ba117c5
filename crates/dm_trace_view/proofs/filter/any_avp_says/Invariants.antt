-- The AVPs from here on decide.
use Rattle.std.proofs.Common.{◌≡◌, List}
use Rattle.std.specs.List.{list_any}
use Rattle.dm_wire.specs.declared.avp.Avp.{Avp}
use Rattle.dm_wire.specs.Borrowed.{Lists, size_of}
use Rattle.dm_trace_view.specs.Filters.{says_asked}
use Rattle.dm_trace_view.proofs.filter.any_avp_says.Given as goal

abbrev pub invariant-loop-avp : goal.invariant-loop-avp
invariant-loop-avp l =
    (all : List Avp) → Lists l.list all
    → (m : List Avp) × Lists l.left m × (list_any (says_asked l.asked) all ≡ list_any (says_asked l.asked) m)

abbrev pub decreases-loop-avp : goal.decreases-loop-avp
decreases-loop-avp l = size_of l.left
