use Rattle.std.proofs.Common.{◌≡◌, None}
use Rattle.dm_view_lines.specs.Colours.{styled}
use Rattle.dm_trace_view.proofs.Saying.{SoHeld}
use Rattle.dm_trace_view.proofs.gathered_packets.say_and_gather_held_packets.Given as goal

-- the packets that were handed out so far are said
abbrev pub invariant-loop : goal.invariant-loop
invariant-loop g l = record {
  so : SoHeld (styled l.fn.style.coloured l.fn.style.task) (g.S.PacketSpeaker.says l.dictionary l.fn.style.task)
      l.fn.capture l.fn.speaker l.capture l.speaker (g.W.Write.contents l.fn.writer) l.fn.output.waits.items
      (g.W.Write.contents l.writer) l.output.waits.items;
  sound : l.capture.fault ≡ None;
}
