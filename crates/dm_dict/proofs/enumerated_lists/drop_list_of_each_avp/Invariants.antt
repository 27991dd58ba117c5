use Rattle.std.proofs.Common.{◌≡◌, ◌++◌, map, take, drop}
use Rattle.dm_dict.specs.WithoutLists.{without_list}
use Rattle.dm_dict.proofs.enumerated_lists.drop_list_of_each_avp.Given as goal

abbrev pub invariant-loop-avp : goal.invariant-loop-avp
invariant-loop-avp l =
    l.avp-items ≡ map without_list (take l.avp-index l.fn.avps.items) ++ drop l.avp-index l.fn.avps.items
