-- Pcap: a header of 24 octets, and records.
use Rattle.std.specs.Prelude.{◌≡◌, ◌≢◌, ◌⊎◌, ℕ, ◌+◌, ◌%◌, ◌<◌, ◌≤◌, nat_eq, pos, Option, None, Some, if◌then◌else◌}
use Rattle.std.specs.Prelude.{List, length, drop}
use Rattle.dm_capture.specs.declared.order.Order.{Order}
use Rattle.dm_capture.specs.declared.order.Order.TheVariants.{Big, Little}
use Rattle.dm_capture.specs.declared.time.Resolution.{Resolution}
use Rattle.dm_capture.specs.declared.time.Resolution.TheVariants.{Decimal}
use Rattle.dm_capture.specs.declared.pcap.PcapForm.{PcapForm}
use Rattle.dm_capture.specs.declared.packet.Record.{Record}
use Rattle.dm_capture.specs.declared.front_item.Holds.{Holds}
use Rattle.dm_capture.specs.declared.front_item.Holds.TheVariants.{Form, PacketRecord}
use Rattle.dm_capture.specs.declared.fault.FaultKind.{FaultKind}
use Rattle.dm_capture.specs.declared.fault.FaultKind.TheVariants.{OtherVersion, RecordTooLong}
use Rattle.dm_capture.specs.Numbers.{ordered_number}
use Rattle.dm_capture.specs.Blocks.{section_type}

-- the resolution by the first four octets: 0xA1B2C3D4 is microseconds, 0xA1B23C4D nanoseconds
abbrev pub resolution_in : ℕ → Option Resolution
resolution_in magic =
    if nat_eq magic 0xa1b2c3d4 then Some (Decimal 6)
    else (if nat_eq magic 0xa1b23c4d then Some (Decimal 9) else None)

abbrev pub magic_in : Order → Option Resolution → Option (Order × Resolution) → Option (Order × Resolution)
magic_in order (Some resolution) otherwise = Some (order, resolution)
magic_in order None otherwise = otherwise

-- the order in which they are one of these, and which one
abbrev pub magic_by : ℕ → ℕ → Option (Order × Resolution)
magic_by big little = magic_in Big (resolution_in big) (magic_in Little (resolution_in little) None)

abbrev pub magic_of : List ℕ → Option (Order × Resolution)
magic_of s = magic_by (ordered_number Big 4 s) (ordered_number Little 4 s)

-- the header of a pcap file of version 2: the link is the lower half of its last four octets
pub record IsForm (s : List ℕ) (form : PcapForm) : Type 0 where
  pub size : length s ≡ 24
  pub no_section : ordered_number Big 4 s ≢ section_type
  pub magic : magic_of s ≡ Some (form.order, form.resolution)
  pub version : ordered_number form.order 2 (drop 4 s) ≡ 2
  pub link : form.link ≡ ordered_number form.order 4 (drop 20 s) % 65536

abbrev pub IsPcapHeader : List ℕ → Holds → Type 0
IsPcapHeader s (Form form) = IsForm s form
IsPcapHeader s _ = ⊥

abbrev pub IsHeaderPart : List ℕ → Type 0
IsHeaderPart s = length s < 24

abbrev pub HasHeaderFault : List ℕ → FaultKind → Type 0
HasHeaderFault s OtherVersion =
    (24 ≤ length s) × (order : Order) × (resolution : Resolution) × (magic_of s ≡ Some (order, resolution)) ×
    (ordered_number order 2 (drop 4 s) ≢ 2)
HasHeaderFault s _ = ⊥

-- what a record with so many octets captured says
abbrev pub pcap_record : PcapForm → ℕ → List ℕ → Record
pcap_record form captured s = record {
  link = form.link;
  time = Some (record {
    seconds = pos (ordered_number form.order 4 s);
    fraction = ordered_number form.order 4 (drop 4 s);
    resolution = form.resolution;
  });
  original = ordered_number form.order 4 (drop 12 s);
  start = 16;
  captured = captured;
}

-- a whole record
pub record IsRecord (form : PcapForm) (s : List ℕ) (stands : Record) : Type 0 where
  pub size : 16 + ordered_number form.order 4 (drop 8 s) ≡ length s
  pub most : ordered_number form.order 4 (drop 8 s) ≤ 262144
  pub says : stands ≡ pcap_record form (ordered_number form.order 4 (drop 8 s)) s

abbrev pub IsPcapRecord : PcapForm → List ℕ → Holds → Type 0
IsPcapRecord form s (PacketRecord stands) = IsRecord form s stands
IsPcapRecord form s _ = ⊥

-- the record at the front isn't whole yet
abbrev pub IsRecordPart : PcapForm → List ℕ → Type 0
IsRecordPart form s =
    (length s < 16) ⊎
    ((16 ≤ length s) × (ordered_number form.order 4 (drop 8 s) ≤ 262144) ×
    (length s < 16 + ordered_number form.order 4 (drop 8 s)))

abbrev pub HasRecordFault : PcapForm → List ℕ → FaultKind → Type 0
HasRecordFault form s RecordTooLong = (16 ≤ length s) × (262144 < ordered_number form.order 4 (drop 8 s))
HasRecordFault form s _ = ⊥
