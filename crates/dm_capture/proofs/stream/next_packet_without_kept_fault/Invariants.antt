-- So far octets were taken from the reader, and items passed that hold no packet.
use Rattle.dm_capture.proofs.Streaming.{Ongoing}
use Rattle.dm_capture.proofs.stream.next_packet_without_kept_fault.Given as goal

abbrev pub invariant-piece : goal.invariant-piece
invariant-piece g l = Ongoing l.fn.capture (g.R.Read.remaining l.fn.reader) l.capture (g.R.Read.remaining l.reader)
