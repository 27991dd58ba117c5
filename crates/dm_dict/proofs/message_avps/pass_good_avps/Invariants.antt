use Rattle.std.proofs.Common.{List}
use Rattle.dm_wire.specs.declared.avp.Avp.{Avp}
use Rattle.dm_wire.specs.Borrowed.{Lists, size_of}
use Rattle.dm_dict.specs.Limits.{group_limit}
use Rattle.dm_dict.specs.Passed.{IsGoodBut}
use Rattle.dm_dict.proofs.message_avps.pass_good_avps.Given as goal

abbrev pub invariant-others : goal.invariant-others
invariant-others l =
    (all : List Avp) → Lists l.list all → (m : List Avp) × Lists l.left m
    × IsGoodBut group_limit l.dictionary.tables.avps.items l.rule.entries.now all m l.counts

abbrev pub decreases-others : goal.decreases-others
decreases-others l = size_of l.left
