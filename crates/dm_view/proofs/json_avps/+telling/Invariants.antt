use Rattle.std.proofs.Common.{◌≡◌, ◌+◌, ◌*◌, List, ◌++◌}
use Rattle.json.specs.Tree.{items_tokens}
use Rattle.dm_wire.specs.declared.avp.Avp.{Avp}
use Rattle.dm_wire.specs.Borrowed.{Lists, size_of}
use Rattle.dm_view.specs.JsonView.{avps_items}
use Rattle.dm_view.proofs.json_avps.+telling.Given as goal

abbrev pub decreases-put_avps_and_end_array : goal.decreases-put_avps_and_end_array
decreases-put_avps_and_end_array l = 4 * l.depth + 3

abbrev pub decreases-put_avp_object : goal.decreases-put_avp_object
decreases-put_avp_object l = 4 * l.depth + 2

abbrev pub decreases-put_avp_data : goal.decreases-put_avp_data
decreases-put_avp_data l = 4 * l.depth + 1

abbrev pub decreases-put_group_data : goal.decreases-put_group_data
decreases-put_group_data l = 4 * l.depth

-- what is left comes behind what is written so far
abbrev pub invariant-put_avps_and_end_array-loop-avp : goal.invariant-put_avps_and_end_array-loop-avp
invariant-put_avps_and_end_array-loop-avp l =
    (all : List Avp) → Lists l.list all → (m : List Avp) × Lists l.left m
    × (l.json ++ items_tokens (avps_items l.depth l.dictionary.avps m)
    ≡ l.fn.json ++ items_tokens (avps_items l.depth l.dictionary.avps all))

abbrev pub decreases-put_avps_and_end_array-loop-avp : goal.decreases-put_avps_and_end_array-loop-avp
decreases-put_avps_and_end_array-loop-avp l = size_of l.left
