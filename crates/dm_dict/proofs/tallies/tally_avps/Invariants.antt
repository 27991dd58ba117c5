use Rattle.std.proofs.Common.{List}
use Rattle.dm_wire.specs.declared.avp.Avp.{Avp}
use Rattle.dm_wire.specs.Borrowed.{Lists, size_of}
use Rattle.dm_dict.specs.Tallies.{AreTallied}
use Rattle.dm_dict.proofs.tallies.tally_avps.Given as goal

-- the AVPs that are left are still to be counted
abbrev pub invariant-loop-avp : goal.invariant-loop-avp
invariant-loop-avp l =
    (all : List Avp) → Lists l.list all → AreTallied l.tables.avps.items l.rule.entries.now all all l.fn.tallies
    → (m : List Avp) × Lists l.left m × AreTallied l.tables.avps.items l.rule.entries.now all m l.tallies

abbrev pub decreases-loop-avp : goal.decreases-loop-avp
decreases-loop-avp l = size_of l.left
