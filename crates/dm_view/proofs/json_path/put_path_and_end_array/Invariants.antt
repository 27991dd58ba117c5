use Rattle.std.proofs.Common.{◌≡◌, ◌++◌, length}
use Rattle.json.specs.Tree.{items_tokens}
use Rattle.dm_view.specs.JsonCheck.{path_items}
use Rattle.dm_view.proofs.json_path.put_path_and_end_array.Given as goal

-- what is left comes behind what is written so far
abbrev pub invariant-loop-left : goal.invariant-loop-left
invariant-loop-left l =
    l.json ++ items_tokens (path_items l.dictionary.avps l.left)
    ≡ l.fn.json ++ items_tokens (path_items l.dictionary.avps l.path)

abbrev pub decreases-loop-left : goal.decreases-loop-left
decreases-loop-left l = length l.left
