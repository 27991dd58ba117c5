-- What is said of a packet by what it carries.
use Rattle.std.proofs.Common.{◌≡◌, ◌++◌, ℕ, List, [], true, false, Option, Result, Ok, Err, OnOk, inl, inr, sym, append-nil, refl, subst}
use Rattle.dm_capture.specs.declared.time.Time.{Time}
use Rattle.dm_capture.specs.Packets.{Captured}
use Rattle.dm_flows.specs.declared.passed.Passed.{Passed}
use Rattle.dm_flows.specs.Tcps.{IsNoSegment}
use Rattle.dm_tables.specs.Definitions.{Definitions}
use Rattle.dm_view_lines.specs.declared.message_reports.Task.{Task}
use Rattle.dm_trace_view.specs.declared.trace_speaker.TraceSpeaker.{TraceSpeaker}
use Rattle.dm_trace_view.specs.Traces.{first_time_of, carries_other, with_passed, SaysOther, SaysPacket}

module _ (task : Task) (d : Definitions) (s : TraceSpeaker) (packet : Captured) (why : Passed) (first : Option Time) where
  -- another protocol
  pub packet_other : {A E : Type 0} (r : Result A E) (t : TraceSpeaker) (text last : List ℕ)
      → first ≡ first_time_of s.first packet.time → IsNoSegment packet.link packet.octets why → carries_other why ≡ true
      → OnOk r ((more : List ℕ) × (last ≡ text ++ more) × SaysOther task d (record s { first = first }) packet t more)
      → OnOk r ((more : List ℕ) × (last ≡ text ++ more) × SaysPacket d task s packet t more)
  packet_other (Err error) t text last is none other said = tt
  packet_other (Ok a) t text last is none other said =
      let First : Option Time → Type 0 = λ k. SaysOther task d (record s { first = k }) packet t said.0 in
      (said.0, said.1, inr (inl (why, none, other, subst First is said.2)))

  -- neither
  pub packet_passed : (t : TraceSpeaker) (text : List ℕ) → first ≡ first_time_of s.first packet.time
      → IsNoSegment packet.link packet.octets why → carries_other why ≡ false
      → t ≡ with_passed (record s { first = first }) why
      → (more : List ℕ) × (text ≡ text ++ more) × SaysPacket d task s packet t more
  packet_passed t text is none other same =
      let First : Option Time → Type 0 = λ k. t ≡ with_passed (record s { first = k }) why in
      ([], sym (append-nil text), inr (inr (why, none, other, subst First is same, refl)))
