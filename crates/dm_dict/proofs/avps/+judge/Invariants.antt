use Rattle.std.proofs.Common.{◌+◌, ◌*◌, List}
use Rattle.dm_wire.specs.declared.avp.Avp.{Avp}
use Rattle.dm_wire.specs.Borrowed.{Lists, size_of}
use Rattle.dm_dict.specs.Passed.{IsGoodBut}
use Rattle.dm_dict.proofs.avps.+judge.Given as goal

abbrev pub decreases-judge_list : goal.decreases-judge_list
decreases-judge_list l = 5 * l.groups_allowed + 4

abbrev pub decreases-judge_list_with_stack_counters : goal.decreases-judge_list_with_stack_counters
decreases-judge_list_with_stack_counters l = 5 * l.groups_allowed + 3

abbrev pub decreases-judge_list_from : goal.decreases-judge_list_from
decreases-judge_list_from l = 5 * l.groups_allowed + 2

abbrev pub decreases-judge_avp : goal.decreases-judge_avp
decreases-judge_avp l = 5 * l.groups_allowed + 1

abbrev pub decreases-judge_group : goal.decreases-judge_group
decreases-judge_group l = 5 * l.groups_allowed

abbrev pub invariant-judge_list_from-loop-avp : goal.invariant-judge_list_from-loop-avp
invariant-judge_list_from-loop-avp l =
    (all : List Avp) → Lists l.list all → (m : List Avp) × Lists l.left m
    × IsGoodBut l.groups_allowed l.dictionary.tables.avps.items l.rule.entries.now all m l.counts

abbrev pub decreases-judge_list_from-loop-avp : goal.decreases-judge_list_from-loop-avp
decreases-judge_list_from-loop-avp l = size_of l.left
