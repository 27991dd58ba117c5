-- A stream: all octets of the lines of an input, in order, cut into messages (RFC 6733, 3).
use Rattle.std.specs.Prelude.{◌≡◌, ℕ, ◌+◌, Bool, false, nat_eq, Option, Some, None}
use Rattle.std.specs.Prelude.{List, [], ◌∷◌, ◌++◌, length, map, codes}
use Rattle.std.specs.Fmt.{decimal}
use Rattle.std.specs.Str.Lines.{lines}
use Rattle.json.specs.Json.{object, Members, member}
use Rattle.dm_framer.specs.declared.fault.FrameFault.{FrameFault}
use Rattle.dm_framer.specs.declared.fault.FrameFault.TheVariants as framing
use Rattle.dm_framer.specs.Frames.{Framed}
use Rattle.dm_wire.specs.Codes.{max_message_len}
use Rattle.dm_wire.specs.declared.fault.WireFault.{WireFault}
use Rattle.dm_wire.specs.declared.fault.WireFault.TheVariants.{Version, Length, TooLong, NoMemory}
use Rattle.dm_tables.specs.Definitions.{Definitions}
use Rattle.dm_view.specs.JsonWords.{number_json}
use Rattle.dm_view_lines.specs.declared.message_reports.Task.{Task}
use Rattle.dm_view_lines.specs.declared.message_reports.Task.TheVariants.{Show, Check, ShowJson, CheckJson}
use Rattle.dm_view_lines.specs.declared.stop.Stop.{Stop}
use Rattle.dm_view_lines.specs.declared.stop.Stop.TheVariants.{Fault, Line, Part}
use Rattle.dm_view_lines.specs.declared.tally.Tally.{Tally}
use Rattle.dm_view_lines.specs.Counts.{tallied, tally_of}
use Rattle.dm_view_lines.specs.Digits.{octets_of_line}
use Rattle.dm_view_lines.specs.Json.{json_line, error_member, bad_members}
use Rattle.dm_view_lines.specs.Lines.{SaysEach, counts_line}
use Rattle.dm_view_lines.specs.Reasons.{refusal_sentence}
use Rattle.dm_view_lines.specs.Said.{bad_said}

-- the octets of lines, up to the first line that is no hexadecimal
abbrev pub octets_then : Option (List ℕ) → List ℕ → List ℕ
octets_then None later = []
octets_then (Some s) later = s ++ later

abbrev pub stream_of : List (List ℕ) → List ℕ
stream_of [] = []
stream_of (line ∷ l) = octets_then (octets_of_line line) (stream_of l)

-- the number of that line, where there is one, if the first has number n
abbrev pub bad_else : ℕ → Option (List ℕ) → Option ℕ → Option ℕ
bad_else n None later = Some n
bad_else n (Some s) later = later

abbrev pub bad_line : ℕ → List (List ℕ) → Option ℕ
bad_line n [] = None
bad_line n (line ∷ l) = bad_else n (octets_of_line line) (bad_line (n + 1) l)

-- what is said of the frames of octets, the first of which has this number, how many are good and bad, and what is left
pub record SaysFrames (task : Task) (d : Definitions) (n : ℕ) (s rest : List ℕ) (fault : Option FrameFault)
    (text : List ℕ) (tally : Tally) : Type 0 where
  pub frames : List (List ℕ)
  pub framed : Framed max_message_len s frames rest fault
  pub each : SaysEach task d n (map Some frames) text tally

-- why a stream is read no further where something is left of it, or lost: its octets are no message's, a line is no
-- hexadecimal, or its last message isn't whole
abbrev pub stop_of : List ℕ → Option FrameFault → Option ℕ → Option Stop
stop_of rest (Some fault) bad = Some (Fault fault)
stop_of rest None (Some n) = Some (Line n)
stop_of [] None None = None
stop_of (b ∷ s) None None = Some (Part (length (b ∷ s)))

-- octets that are no message's are refused as those of a line (7.1.3 and 7.1.5)
abbrev pub stream_refusal : FrameFault → WireFault
stream_refusal framing.BadVersion = Version
stream_refusal framing.BadLength = Length
stream_refusal framing.TooLong = TooLong
stream_refusal framing.NoMemory = NoMemory

abbrev pub line_json : ℕ → Members → List ℕ
line_json number more = json_line (object (member (codes "line") (number_json number) more))

-- of the line of this number, which is no hexadecimal
abbrev pub line_stopped : Task → ℕ → List ℕ
line_stopped Show number = codes "line " ++ decimal number ++ codes ": no hexadecimal" ++ 10 ∷ []
line_stopped Check number = codes "line " ++ decimal number ++ codes ": no hexadecimal" ++ 10 ∷ []
line_stopped ShowJson number = line_json number (error_member (codes "no hexadecimal"))
line_stopped CheckJson number = line_json number (bad_members (error_member (codes "no hexadecimal")))

abbrev pub part_words : ℕ → List ℕ
part_words size = codes "no message: the stream ends inside it, at octet " ++ decimal size

-- the line that says why; n is the number behind those of the messages
abbrev pub stop_line : Task → ℕ → Stop → List ℕ
stop_line task n (Fault fault) = bad_said task n (refusal_sentence (stream_refusal fault))
stop_line task n (Line number) = line_stopped task number
stop_line task n (Part size) = bad_said task n (part_words size)

abbrev pub stop_text : Task → ℕ → Option Stop → List ℕ
stop_text task n None = []
stop_text task n (Some stop) = stop_line task n stop

-- it counts as bad
abbrev pub stop_verdict : Option Stop → Option Bool
stop_verdict None = None
stop_verdict (Some stop) = Some false

-- what is said of the lines of an input as one stream, and whether all of it is good
pub record SaysStream (task : Task) (d : Definitions) (input text : List ℕ) (good : Bool) : Type 0 where
  pub rest : List ℕ
  pub fault : Option FrameFault
  pub said : List ℕ
  pub counted : Tally
  pub told : SaysFrames task d 1 (stream_of (lines input)) rest fault said counted
  pub stop : Option Stop
  pub stop_is : stop ≡ stop_of rest fault (bad_line 1 (lines input))
  pub tally : Tally
  pub tally_is : tally ≡ tallied counted (tally_of (stop_verdict stop))
  pub text_is : text ≡ said ++ stop_text task (length told.frames + 1) stop ++ counts_line task tally
  pub good_is : good ≡ nat_eq tally.bad 0
