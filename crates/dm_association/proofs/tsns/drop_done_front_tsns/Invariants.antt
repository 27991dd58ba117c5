-- So far those in front went that are done.
use Rattle.std.proofs.Common.{◌≤◌, length}
use Rattle.dm_association.specs.TsnWindows.{PassesFront}
use Rattle.dm_association.proofs.tsns.drop_done_front_tsns.Given as goal

abbrev pub invariant-done : goal.invariant-done
invariant-done l =
    PassesFront (record { next = l.from; tsns = l.fn.tsns.items }) (record { next = l.next; tsns = l.tsns.items })
    × (length l.tsns.items ≤ length l.fn.tsns.items)

abbrev pub decreases-done : goal.decreases-done
decreases-done l = length l.tsns.items
