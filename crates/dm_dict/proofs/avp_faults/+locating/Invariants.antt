use Rattle.std.proofs.Common.{◌≡◌, ◌≤◌, ◌+◌, ◌*◌, List, [], ◌++◌, length, map}
use Rattle.std.specs.Option.{option_copied}
use Rattle.dm_wire.specs.declared.avp.Avp.{Avp}
use Rattle.dm_wire.specs.Borrowed.{Lists, size_of}
use Rattle.dm_dict.specs.Located.{each_located, group_located}
use Rattle.dm_dict.specs.Locating.{found, told_behind}
use Rattle.dm_dict.specs.Numbers.{AreNumbered}
use Rattle.dm_dict.proofs.avp_faults.+locating.Given as goal

abbrev pub decreases-add_faults_under_rule : goal.decreases-add_faults_under_rule
decreases-add_faults_under_rule l = 4 * l.groups_allowed + 3

abbrev pub decreases-add_each_avp_faults : goal.decreases-add_each_avp_faults
decreases-add_each_avp_faults l = 4 * l.groups_allowed + 2

abbrev pub decreases-add_avp_faults : goal.decreases-add_avp_faults
decreases-add_avp_faults l = 4 * l.groups_allowed + 1

abbrev pub decreases-add_group_faults : goal.decreases-add_group_faults
decreases-add_group_faults l = 4 * l.groups_allowed

-- the AVPs that are left come behind what is listed, and their groups are numbered on
abbrev pub invariant-add_each_avp_faults-loop-avp : goal.invariant-add_each_avp_faults-loop-avp
invariant-add_each_avp_faults-loop-avp l =
    (all : List Avp) → Lists l.list all → (p m : List Avp) × Lists l.left m
    × (length p + size_of l.left ≤ size_of l.list)
    × AreNumbered (option_copied l.path) l.dictionary.tables.avps.items p l.numbers.entries
    × (found (option_copied l.path) l.findings
    ++ map (told_behind (option_copied l.path)) (each_located (group_located l.groups_allowed l.dictionary.tables.avps.items) l.dictionary.tables.avps.items l.rule.entries.now p m)
    ≡ found (option_copied l.path) l.fn.findings
    ++ map (told_behind (option_copied l.path)) (each_located (group_located l.groups_allowed l.dictionary.tables.avps.items) l.dictionary.tables.avps.items l.rule.entries.now [] all))

abbrev pub decreases-add_each_avp_faults-loop-avp : goal.decreases-add_each_avp_faults-loop-avp
decreases-add_each_avp_faults-loop-avp l = size_of l.left
