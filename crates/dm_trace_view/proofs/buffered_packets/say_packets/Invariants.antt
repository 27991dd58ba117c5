use Rattle.std.proofs.Common.{◌≡◌, [], None}
use Rattle.dm_view_lines.specs.Colours.{styled}
use Rattle.dm_trace_view.proofs.Files.{SoFile}
use Rattle.dm_trace_view.proofs.buffered_packets.say_packets.Given as goal

-- what was read so far is said and written
abbrev pub invariant-loop : goal.invariant-loop
invariant-loop g l = record {
  so : SoFile (styled l.fn.style.coloured l.fn.style.task) (g.S.PacketSpeaker.says l.dictionary l.fn.style.task)
      l.fn.speaker l.capture l.speaker (g.R.Read.remaining l.fn.reader) (g.R.Read.remaining l.reader)
      (g.W.Write.contents l.fn.writer) (g.W.Write.contents l.writer);
  none : l.output.waits.items ≡ [];
  sound : l.capture.fault ≡ None;
}
