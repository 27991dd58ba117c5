use Rattle.std.proofs.Common.{◌≡◌, ◌++◌, ℕ, List, length}
use Rattle.std.specs.String.{string_bytes}
use Rattle.dm_view_lines.specs.declared.tally.Tally.{Tally}
use Rattle.dm_view_lines.specs.Counts.{tallied}
use Rattle.dm_view_lines.proofs.Pieces.{Continues}
use Rattle.dm_view_lines.proofs.frames.take_frames_and_put_reports.Given as goal

-- Of the messages before, which were counted, this is said; whatever is said of those that are held, behind it it is what
-- is said of all.
abbrev pub invariant-loop-message : goal.invariant-loop-message
invariant-loop-message l = record {
  held : l.held ≡ length l.framer.octets;
  kept : l.framer ≡ record l.fn.framer { octets = l.framer.octets };
  so : List ℕ;
  told : Tally;
  text : string_bytes l.text ≡ string_bytes l.fn.text ++ so;
  counted : l.tally ≡ tallied l.fn.reading.tally told;
  behind : Continues l.fn.task l.dictionary l.fn.framer.octets l.framer.octets l.fn.reading.tally l.tally so told;
}

abbrev pub decreases-loop-message : goal.decreases-loop-message
decreases-loop-message l = length l.framer.octets
