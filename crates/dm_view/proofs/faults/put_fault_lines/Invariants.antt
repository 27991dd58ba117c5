use Rattle.std.proofs.Common.{◌≡◌, ◌++◌, flat_map, map, length}
use Rattle.std.specs.String.{string_bytes}
use Rattle.dm_dict.specs.Locating.{told_at}
use Rattle.dm_view.specs.Check.{fault_line}
use Rattle.dm_view.proofs.faults.put_fault_lines.Given as goal

-- what is left comes behind the text so far
abbrev pub invariant-loop-left : goal.invariant-loop-left
invariant-loop-left l =
    string_bytes l.text ++ flat_map (fault_line l.dictionary.avps) (map told_at l.left)
    ≡ string_bytes l.fn.text ++ flat_map (fault_line l.dictionary.avps) (map told_at l.faults)

abbrev pub decreases-loop-left : goal.decreases-loop-left
decreases-loop-left l = length l.left
