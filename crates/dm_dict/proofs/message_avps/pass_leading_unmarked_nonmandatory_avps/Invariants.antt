use Rattle.std.proofs.Common.{◌≤◌}
use Rattle.dm_wire.specs.Borrowed.{size_of}
use Rattle.dm_dict.specs.Limits.{group_limit}
use Rattle.dm_dict.specs.Passed.{PassesList}
use Rattle.dm_dict.proofs.message_avps.pass_leading_unmarked_nonmandatory_avps.Given as goal

abbrev pub invariant-loop-avp : goal.invariant-loop-avp
invariant-loop-avp l =
    PassesList group_limit l.dictionary.tables.avps.items l.rule.entries.now l.list l.behind l.fn.counts l.counts
    × (size_of l.behind ≤ size_of l.list)

abbrev pub decreases-loop-avp : goal.decreases-loop-avp
decreases-loop-avp l = size_of l.behind
