use Rattle.std.proofs.Common.{◌≡◌, ◌++◌, List}
use Rattle.std.specs.List.{flat_map}
use Rattle.dm_wire.specs.declared.avp.Avp.{Avp}
use Rattle.dm_wire.specs.Borrowed.{Lists, size_of}
use Rattle.dm_tool.specs.Text.{shown_avp}
use Rattle.dm_tool.proofs.message_text.push_avp_lines.Given as goal

abbrev pub invariant-loop-avp : goal.invariant-loop-avp
invariant-loop-avp l =
    (all : List Avp) → Lists l.list all →
    (m : List Avp) × Lists l.left m
    × (l.fn.text.items ++ flat_map shown_avp all ≡ l.text.items ++ flat_map shown_avp m)

abbrev pub decreases-loop-avp : goal.decreases-loop-avp
decreases-loop-avp l = size_of l.left
