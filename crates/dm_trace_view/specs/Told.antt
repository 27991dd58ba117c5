-- What is told beside the messages: what was lost, and what a check counts.
use Rattle.std.specs.Prelude.{ℕ, ◌+◌, ◌-◌, ◌^◌, min, Option, None, Some, List, [], ◌∷◌, ◌++◌, codes}
use Rattle.std.specs.Fmt.{decimal}
use Rattle.json.specs.Json.{object, string, Members, member, no_members}
use Rattle.dm_capture.specs.declared.fault.CaptureFault.{CaptureFault}
use Rattle.dm_capture.specs.declared.fault.FaultKind.{FaultKind}
use Rattle.dm_capture.specs.declared.fault.FaultKind.TheVariants as kinds
use Rattle.dm_trace.specs.Ends.{endpoint_text}
use Rattle.dm_trace.specs.Fronts.{ends_text}
use Rattle.dm_view.specs.JsonWords.{number_json}
use Rattle.dm_view_lines.specs.Json.{json_line, error_member}
use Rattle.dm_view_lines.specs.declared.message_reports.Task.{Task}
use Rattle.dm_view_lines.specs.declared.message_reports.Task.TheVariants.{Show, Check, ShowJson, CheckJson}
use Rattle.dm_view_lines.specs.declared.tally.Tally.{Tally}
use Rattle.dm_trace_view.specs.declared.counts.Counts.{Counts}
use Rattle.dm_trace_view.specs.declared.lost.Lost.{Lost}
use Rattle.dm_trace_view.specs.declared.lost.Lost.TheVariants.{Passed, Secured, LetGo}
use Rattle.dm_trace_view.specs.declared.lost.LostIn.{LostIn}

abbrev pub lost_words : Lost → List ℕ
lost_words (Passed octets) = decimal octets ++ codes " octets passed over"
lost_words (Secured octets) = codes "DTLS begins, " ++ decimal octets ++ codes " octets unread"
lost_words (LetGo octets) = codes "connection let go, " ++ decimal octets ++ codes " octets held"

abbrev pub lost_member : Lost → Members
lost_member (Passed octets) = member (codes "passed") (number_json octets) no_members
lost_member (Secured octets) = member (codes "secured") (number_json octets) no_members
lost_member (LetGo octets) = member (codes "let_go") (number_json octets) no_members

-- as `packet 17 10.0.0.1:41234 > 10.0.0.2:3868: 1460 octets passed over`
abbrev pub lost_line : LostIn → List ℕ
lost_line told =
    codes "packet " ++ decimal told.packet ++ ends_text told.from told.to ++ codes ": " ++ lost_words told.lost
    ++ 10 ∷ []

abbrev pub lost_json : LostIn → List ℕ
lost_json told =
    json_line (object
    (member (codes "packet") (number_json told.packet)
    (member (codes "from") (string (endpoint_text told.from))
    (member (codes "to") (string (endpoint_text told.to)) (lost_member told.lost)))))

-- what was lost in a packet
abbrev pub lost_text : Task → LostIn → List ℕ
lost_text Show told = lost_line told
lost_text Check told = lost_line told
lost_text ShowJson told = lost_json told
lost_text CheckJson told = lost_json told

-- why a capture is read no further
abbrev pub why_words : FaultKind → List ℕ
why_words kinds.NoCapture = codes "no capture"
why_words kinds.OtherVersion = codes "unsupported version"
why_words kinds.WrongLength = codes "wrong length"
why_words kinds.RecordTooLong = codes "record too long"
why_words kinds.LengthsDiffer = codes "lengths of a block differ"
why_words kinds.UnknownInterface = codes "interface not described"
why_words kinds.TooManyInterfaces = codes "too many interfaces"
why_words kinds.CutRecord = codes "file ends inside a record"
why_words kinds.OutOfMemory = codes "out of memory"

abbrev pub file_fault_line : CaptureFault → List ℕ
file_fault_line fault = codes "octet " ++ decimal fault.offset ++ codes ": " ++ why_words fault.kind ++ 10 ∷ []

abbrev pub fault_json : CaptureFault → List ℕ
fault_json fault =
    json_line (object (member (codes "octet") (number_json fault.offset) (error_member (why_words fault.kind))))

abbrev pub fault_text : Task → CaptureFault → List ℕ
fault_text Show fault = file_fault_line fault
fault_text Check fault = file_fault_line fault
fault_text ShowJson fault = fault_json fault
fault_text CheckJson fault = fault_json fault

-- good and bad ones, up to 2^64 - 1
abbrev pub messages_in : Tally → ℕ
messages_in tally = min (tally.good + tally.bad) (2 ^ 64 - 1)

abbrev pub counts_words : Counts → Tally → List ℕ
counts_words counts tally =
    decimal counts.connections ++ codes " connections, " ++ decimal (messages_in tally) ++ codes " messages, "
    ++ decimal tally.good ++ codes " good, " ++ decimal tally.bad ++ codes " bad, "
    ++ decimal counts.passed ++ codes " octets passed over, " ++ decimal counts.secured ++ codes " octets of DTLS, "
    ++ decimal counts.fragments ++ codes " fragments, " ++ decimal counts.cut ++ codes " cut packets" ++ 10 ∷ []

-- what was lost
abbrev pub lost_counts : Counts → Members
lost_counts counts =
    member (codes "passed") (number_json counts.passed)
    (member (codes "secured") (number_json counts.secured)
    (member (codes "fragments") (number_json counts.fragments)
    (member (codes "cut") (number_json counts.cut) no_members)))

abbrev pub counts_members : Counts → Tally → Members
counts_members counts tally =
    member (codes "connections") (number_json counts.connections)
    (member (codes "messages") (number_json (messages_in tally))
    (member (codes "good") (number_json tally.good)
    (member (codes "bad") (number_json tally.bad) (lost_counts counts))))

abbrev pub counts_json : Counts → Tally → List ℕ
counts_json counts tally = json_line (object (counts_members counts tally))

-- what ends a check
abbrev pub counts_text : Task → Counts → Tally → List ℕ
counts_text Show counts tally = []
counts_text Check counts tally = counts_words counts tally
counts_text ShowJson counts tally = []
counts_text CheckJson counts tally = counts_json counts tally

abbrev pub any_fault_text : Task → Option CaptureFault → List ℕ
any_fault_text task None = []
any_fault_text task (Some fault) = fault_text task fault

-- what ends the text of a capture
abbrev pub ending_text : Task → Option CaptureFault → Counts → Tally → List ℕ
ending_text task fault counts tally = any_fault_text task fault ++ counts_text task counts tally
