use Rattle.std.proofs.Common.{◌≡◌, ◌++◌, map, length}
use Rattle.json.specs.Tree.{items_tokens}
use Rattle.dm_dict.specs.Locating.{told_at}
use Rattle.dm_view.specs.JsonCheck.{faults_items}
use Rattle.dm_view.proofs.json_faults.put_faults_and_end_array.Given as goal

-- what is left comes behind what is written so far
abbrev pub invariant-loop-left : goal.invariant-loop-left
invariant-loop-left l =
    l.json ++ items_tokens (faults_items l.dictionary.avps (map told_at l.left))
    ≡ l.fn.json ++ items_tokens (faults_items l.dictionary.avps (map told_at l.faults))

abbrev pub decreases-loop-left : goal.decreases-loop-left
decreases-loop-left l = length l.left
