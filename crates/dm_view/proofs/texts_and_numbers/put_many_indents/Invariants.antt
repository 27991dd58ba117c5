use Rattle.std.proofs.Common.{◌≡◌, ◌++◌}
use Rattle.std.specs.String.{string_bytes}
use Rattle.dm_view.specs.Words.{indented}
use Rattle.dm_view.proofs.texts_and_numbers.put_many_indents.Given as goal

-- the spaces that are left come behind the text so far
abbrev pub invariant-loop-left : goal.invariant-loop-left
invariant-loop-left l =
    string_bytes l.text ++ indented l.left ≡ string_bytes l.fn.text ++ indented l.fn.levels

abbrev pub decreases-loop-left : goal.decreases-loop-left
decreases-loop-left l = l.left
