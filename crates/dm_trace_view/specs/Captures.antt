-- What is said of a whole capture.
use Rattle.std.specs.Prelude.{◌≡◌, ◌⊎◌, ℕ, nat_eq, Bool, ◌&&◌, Option, None, IfSome, is_none, List, []}
use Rattle.std.specs.Io.KnownBytes.{Appends}
use Rattle.dm_capture.specs.declared.fault.CaptureFault.{CaptureFault}
use Rattle.dm_associations.specs.Associations.{held_by}
use Rattle.dm_connections.specs.Held.{all_octets}
use Rattle.dm_flows.specs.Connections.{pending_in}
use Rattle.dm_tables.specs.Definitions.{Definitions}
use Rattle.dm_wire.specs.Codes.{max_message_len}
use Rattle.dm_view_lines.specs.declared.waiting_text.Style.{Style}
use Rattle.dm_view_lines.specs.declared.run_fault.RunFault.{RunFault}
use Rattle.dm_view_lines.specs.declared.tally.Tally.{Tally}
use Rattle.dm_view_lines.specs.Colours.{styled}
use Rattle.dm_view_lines.specs.Counts.{no_lines}
use Rattle.dm_view_lines.specs.Ending.{FailsAtEnd}
use Rattle.dm_trace_view.specs.declared.counts.Counts.{Counts}
use Rattle.dm_trace_view.specs.declared.looks.Looks.{Looks}
use Rattle.dm_trace_view.specs.declared.trace_speaker.TraceSpeaker.{TraceSpeaker}
use Rattle.dm_trace_view.specs.Runs.{SaysFile, StopsFile}
use Rattle.dm_trace_view.specs.Told.{ending_text}
use Rattle.dm_trace_view.specs.Traces.{SaysPacket, more_of}

abbrev pub no_counts : Counts
no_counts = record { connections = 0; passed = 0; secured = 0; fragments = 0; cut = 0 }

-- before the first packet
abbrev pub trace_begun : Looks → TraceSpeaker
trace_begun looks = record {
  connections = record { max = max_message_len; held = [] };
  associations = record { max = max_message_len; held = [] };
  looks = looks;
  first = None;
  reckoned = record { numbered = record { messages = 0; tally = no_lines }; counts = no_counts };
}

-- behind the last one: what came and wasn't handed out isn't any more
abbrev pub counts_behind : TraceSpeaker → Counts
counts_behind s = record s.reckoned.counts {
  passed = more_of (more_of s.reckoned.counts.passed (all_octets pending_in s.connections.held))
      (all_octets held_by s.associations.held);
}

-- a capture is good where none of its messages is bad, and nothing is wrong with its file
abbrev pub is_all_good : Option CaptureFault → Tally → Bool
is_all_good fault tally = is_none fault && nat_eq tally.bad 0

abbrev pub SaysFileIn : Definitions → Style → Looks → List ℕ → Option CaptureFault → TraceSpeaker → Option (List ℕ)
    → Option (List ℕ) → Type 0
SaysFileIn d style looks octets fault s old new =
    SaysFile (styled style.coloured style.task) (SaysPacket d style.task) (trace_begun looks) octets fault s old new

-- all packets of a capture are said, and then its end
pub record SaysCapture (d : Definitions) (style : Style) (looks : Looks) (octets : List ℕ) (good : Bool)
    (old new : Option (List ℕ)) : Type 0 where
  pub fault : Option CaptureFault
  pub last : TraceSpeaker
  pub mid : Option (List ℕ)
  pub says : SaysFileIn d style looks octets fault last old mid
  pub ends : Appends mid new (styled style.coloured style.task
      (ending_text style.task fault (counts_behind last) last.reckoned.numbered.tally))
  pub good_is : good ≡ is_all_good fault last.reckoned.numbered.tally

-- all packets are said, and its end isn't, or not all of it
pub record EndsUnsaid (d : Definitions) (style : Style) (looks : Looks) (why : RunFault) (octets : List ℕ)
    (old new : Option (List ℕ)) : Type 0 where
  pub fault : Option CaptureFault
  pub last : TraceSpeaker
  pub mid : Option (List ℕ)
  pub says : SaysFileIn d style looks octets fault last old mid
  pub fails : FailsAtEnd why mid new (styled style.coloured style.task
      (ending_text style.task fault (counts_behind last) last.reckoned.numbered.tally))

-- a run over a capture stops by this fault
abbrev pub StopsCapture : Definitions → Style → Looks → RunFault → Option (List ℕ) → Option (List ℕ) → Option (List ℕ)
    → Option (List ℕ) → Type 0
StopsCapture d style looks why given left old new =
    StopsFile (styled style.coloured style.task) (SaysPacket d style.task) (trace_begun looks) why given left old new
    ⊎ IfSome given (λ octets. EndsUnsaid d style looks why octets old new)
