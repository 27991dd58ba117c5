-- What is said of a line, and what is known then.
use Rattle.std.specs.Prelude.{◌≡◌, ℕ, ◌+◌, Bool, true, false, Option, Some, None, option_map, is_some}
use Rattle.std.specs.Prelude.{List, [], ◌++◌, length}
use Rattle.dm_framer.specs.declared.fault.FrameFault.{FrameFault}
use Rattle.dm_wire.specs.Codes.{max_message_len}
use Rattle.dm_tables.specs.Definitions.{Definitions}
use Rattle.dm_view_lines.specs.declared.line_speaker.LineSpeaker.{LineSpeaker}
use Rattle.dm_view_lines.specs.declared.message_reports.Task.{Task}
use Rattle.dm_view_lines.specs.declared.stop.Stop.{Stop}
use Rattle.dm_view_lines.specs.declared.stop.Stop.TheVariants.{Fault, Line}
use Rattle.dm_view_lines.specs.declared.stream_speaker.StreamSpeaker.{StreamSpeaker}
use Rattle.dm_view_lines.specs.declared.tally.Tally.{Tally}
use Rattle.dm_view_lines.specs.Counts.{tallied, tally_of}
use Rattle.dm_view_lines.specs.Digits.{octets_of_line}
use Rattle.dm_view_lines.specs.Frames.{SaysFrames}
use Rattle.dm_view_lines.specs.Lines.{SaysLine}

-- a line by itself, which is counted
abbrev pub CountsOneLine : Definitions → Task → LineSpeaker → ℕ → List ℕ → LineSpeaker → List ℕ → Type 0
CountsOneLine d task s n line t text =
    (verdict : Option Bool) × SaysLine task d n (octets_of_line line) text verdict
    × (t.tally ≡ tallied s.tally (tally_of verdict))

-- a piece of a stream behind what is held of it
pub record SaysPiece (task : Task) (d : Definitions) (n : ℕ) (octets : Option (List ℕ)) (held holds text : List ℕ)
    (before tally : Tally) (fault : Option FrameFault) (stop : Option Stop) : Type 0 where
  pub bad : octets ≡ None → (stop ≡ Some (Line n)) × (tally ≡ before) × (text ≡ []) × (holds ≡ held)
  pub said : (piece : List ℕ) → octets ≡ Some piece → (told : Tally)
      × SaysFrames task d (before.good + before.bad + 1) (held ++ piece) holds fault text told
      × (tally ≡ tallied before told) × (stop ≡ option_map Fault fault)

-- the octets of a line, as a piece of a stream that is read on
abbrev pub ReadsLine : Definitions → Task → StreamSpeaker → ℕ → List ℕ → StreamSpeaker → List ℕ → Type 0
ReadsLine d task s n line t text =
    (s.stop ≡ None) × SaysPiece task d n (octets_of_line line) s.framer.octets t.framer.octets text s.reading.tally
    t.reading.tally t.reading.fault t.stop

-- whether it is read further
pub record Streams (s : StreamSpeaker) : Type 0 where
  pub held : s.reading.held ≡ length s.framer.octets
  pub most : s.framer.max ≡ max_message_len
  pub sound : s.framer.fault ≡ None
  pub stop : s.stop ≡ None

abbrev pub StreamGoes : StreamSpeaker → Bool → Type 0
StreamGoes s true = Streams s
StreamGoes s false = is_some s.stop ≡ true
