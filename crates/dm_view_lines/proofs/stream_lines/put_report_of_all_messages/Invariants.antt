use Rattle.std.proofs.Common.{◌≡◌, ◌+◌, ◌++◌, ℕ, List, None, length}
use Rattle.std.specs.Str.Lines.{lines}
use Rattle.std.specs.String.{string_bytes}
use Rattle.dm_wire.specs.Codes.{max_message_len}
use Rattle.dm_view_lines.proofs.Streamed.{SoFar}
use Rattle.dm_view_lines.proofs.stream_lines.put_report_of_all_messages.Given as goal

-- The lines before, which were counted, are hexadecimal; of their octets this is said, and the rest of them is held.
abbrev pub invariant-loop-line : goal.invariant-loop-line
invariant-loop-line l = record {
  before : List (List ℕ);
  lines_are : lines l.input ≡ before ++ lines l.line-iterator;
  counted : l.number ≡ length before;
  max : l.framer.max ≡ max_message_len;
  sound : l.framer.fault ≡ None;
  held : l.reading.held ≡ length l.framer.octets;
  so_far : SoFar l.fn.task l.dictionary (lines l.input) (lines l.line-iterator) (l.number + 1) l.framer.octets
      (string_bytes l.fn.text) (string_bytes l.text) l.reading.tally;
}
