use Rattle.std.proofs.Common.{◌+◌, ◌*◌, ◌≤◌, List, length}
use Rattle.dm_wire.specs.declared.avp.Avp.{Avp}
use Rattle.dm_wire.specs.Spelling.{SpellsList}
use Rattle.dm_dict.specs.Passed.{IsGoodBut, PassesOctets}
use Rattle.dm_dict.proofs.passing.+passing.Given as goal

abbrev pub decreases-are_members_seen_good : goal.decreases-are_members_seen_good
decreases-are_members_seen_good l = 10 * l.groups_allowed + 9

abbrev pub decreases-are_members_seen_good_with_many_counters : goal.decreases-are_members_seen_good_with_many_counters
decreases-are_members_seen_good_with_many_counters l = 10 * l.groups_allowed + 8

abbrev pub decreases-are_members_seen_good_with_few_counters : goal.decreases-are_members_seen_good_with_few_counters
decreases-are_members_seen_good_with_few_counters l = 10 * l.groups_allowed + 8

abbrev pub decreases-are_members_seen_good_with_counters : goal.decreases-are_members_seen_good_with_counters
decreases-are_members_seen_good_with_counters l = 10 * l.groups_allowed + 7

abbrev pub decreases-pass_spelled_avps : goal.decreases-pass_spelled_avps
decreases-pass_spelled_avps l = 10 * l.groups_allowed + 6

abbrev pub decreases-pass_spelled_avps_until_no_row : goal.decreases-pass_spelled_avps_until_no_row
decreases-pass_spelled_avps_until_no_row l = 10 * l.groups_allowed + 5

abbrev pub decreases-pass_spelled_avp_without_row : goal.decreases-pass_spelled_avp_without_row
decreases-pass_spelled_avp_without_row l = 10 * l.groups_allowed + 5

abbrev pub decreases-pass_looked_up_avp : goal.decreases-pass_looked_up_avp
decreases-pass_looked_up_avp l = 10 * l.groups_allowed + 4

abbrev pub decreases-pass_avp_parts : goal.decreases-pass_avp_parts
decreases-pass_avp_parts l = 10 * l.groups_allowed + 3

abbrev pub decreases-is_avp_seen_good : goal.decreases-is_avp_seen_good
decreases-is_avp_seen_good l = 10 * l.groups_allowed + 2

abbrev pub decreases-is_defined_avp_seen_good : goal.decreases-is_defined_avp_seen_good
decreases-is_defined_avp_seen_good l = 10 * l.groups_allowed + 1

abbrev pub decreases-is_group_seen_good : goal.decreases-is_group_seen_good
decreases-is_group_seen_good l = 10 * l.groups_allowed

-- the AVPs that were passed, before any others that the octets left may spell
abbrev pub invariant-pass_spelled_avps_until_no_row-loop-avp : goal.invariant-pass_spelled_avps_until_no_row-loop-avp
invariant-pass_spelled_avps_until_no_row-loop-avp l =
    PassesOctets l.groups_allowed l.dictionary.tables.avps.items l.rule.entries.now l.octets l.left l.fn.counts l.counts
    × (length l.left ≤ length l.octets)

abbrev pub decreases-pass_spelled_avps_until_no_row-loop-avp : goal.decreases-pass_spelled_avps_until_no_row-loop-avp
decreases-pass_spelled_avps_until_no_row-loop-avp l = length l.left

abbrev pub invariant-pass_spelled_avps-loop-behind : goal.invariant-pass_spelled_avps-loop-behind
invariant-pass_spelled_avps-loop-behind l =
    (all : List Avp → List Avp)
    × ((m : List Avp) → SpellsList m l.left → SpellsList (all m) l.octets)
    × ((m : List Avp) → IsGoodBut l.groups_allowed l.dictionary.tables.avps.items l.rule.entries.now (all m) m l.counts)

abbrev pub decreases-pass_spelled_avps-loop-behind : goal.decreases-pass_spelled_avps-loop-behind
decreases-pass_spelled_avps-loop-behind l = length l.left
