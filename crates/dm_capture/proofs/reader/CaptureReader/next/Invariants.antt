-- So far items were passed that hold no packet.
use Rattle.std.proofs.Common.{◌≡◌, List, [], length}
use Rattle.dm_capture.specs.Captures.{HeldItem, ItemsLead, packets_of}
use Rattle.dm_capture.proofs.reader.CaptureReader.next.Given as goal

abbrev pub invariant-items : goal.invariant-items
invariant-items l =
    (items : List HeldItem) × ItemsLead l.fn.self items l.self × (packets_of l.fn.self.packets items ≡ [])

abbrev pub decreases-items : goal.decreases-items
decreases-items l = length l.self.octets
