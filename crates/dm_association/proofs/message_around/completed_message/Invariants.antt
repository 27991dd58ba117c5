-- So far the octets of the first chunks were appended.
use Rattle.std.proofs.Common.{◌≡◌}
use Rattle.dm_association.specs.Fragments.{user_message}
use Rattle.dm_association.specs.TsnWindows.{octets_with}
use Rattle.dm_association.proofs.message_around.completed_message.Given as goal

abbrev pub invariant-chunks : goal.invariant-chunks
invariant-chunks l =
    l.message.items ≡ user_message (octets_with l.tsns.items l.place l.octets) l.extent.first l.index
