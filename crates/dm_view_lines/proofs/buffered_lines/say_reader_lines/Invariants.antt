use Rattle.std.proofs.Common.{◌≡◌, true, []}
use Rattle.dm_view_lines.specs.Colours.{styled}
use Rattle.dm_view_lines.proofs.Readings.{SoRead}
use Rattle.dm_view_lines.proofs.buffered_lines.say_reader_lines.Given as goal

-- the lines that were read whole are said and written
abbrev pub invariant-loop : goal.invariant-loop
invariant-loop g l = record {
  so : SoRead (styled l.fn.style.coloured l.fn.style.task) (g.S.Speaker.says l.dictionary l.fn.style.task) l.fn.seam.lines
      l.fn.speaker l.seam.held.items l.seam.lines l.speaker (g.R.Read.remaining l.fn.reader)
      (g.R.Read.remaining l.reader) (g.W.Write.contents l.fn.writer) (g.W.Write.contents l.writer);
  goes : g.S.Speaker.goes l.speaker true;
  none : l.output.waits.items ≡ [];
}
