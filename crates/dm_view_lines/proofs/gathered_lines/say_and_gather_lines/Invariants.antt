use Rattle.std.proofs.Common.{◌≡◌, ◌++◌, ℕ, List, true}
use Rattle.std.specs.Str.Lines.{lines}
use Rattle.dm_view_lines.specs.Colours.{styled}
use Rattle.dm_view_lines.specs.Turns.{TellsLines}
use Rattle.dm_view_lines.proofs.gathered_lines.say_and_gather_lines.Given as goal

-- the lines before are said, and more is to be said
abbrev pub invariant-loop-line : goal.invariant-loop-line
invariant-loop-line g l = record {
  before : List (List ℕ);
  lines_are : lines l.octets ≡ before ++ lines l.line-iterator;
  told : TellsLines (styled l.fn.style.coloured l.fn.style.task) (g.S.Speaker.says l.dictionary l.fn.style.task) l.fn.before
      l.fn.speaker before l.so_far l.speaker true (g.W.Write.contents l.fn.writer) l.fn.output.waits.items
      (g.W.Write.contents l.writer) l.output.waits.items;
  goes : g.S.Speaker.goes l.speaker true;
}
