-- Packets, and the blocks that hold one.
use Rattle.std.specs.Prelude.{◌≡◌, ◌⊎◌, ℕ, ◌+◌, ◌*◌, ◌<◌, ◌≤◌, nat_eq, min, Option, None, Some, if◌then◌else◌}
use Rattle.std.specs.Prelude.{List, length, take, drop, slice_get}
use Rattle.dm_capture.specs.declared.order.Order.{Order}
use Rattle.dm_capture.specs.declared.time.Time.{Time}
use Rattle.dm_capture.specs.declared.interface.Interface.{Interface}
use Rattle.dm_capture.specs.declared.packet.Record.{Record}
use Rattle.dm_capture.specs.declared.packet.Packet.{Packet}
use Rattle.dm_capture.specs.declared.fault.FaultKind.{FaultKind}
use Rattle.dm_capture.specs.declared.fault.FaultKind.TheVariants.{WrongLength, RecordTooLong, UnknownInterface}
use Rattle.dm_capture.specs.Numbers.{ordered_number}
use Rattle.dm_capture.specs.Times.{time_of}

-- a packet, wherever its octets lie
pub record Captured : Type 0 where
  pub number : ℕ
  pub link : ℕ
  pub time : Option Time
  pub original : ℕ
  pub octets : List ℕ

abbrev pub captured_of : Packet → Captured
captured_of packet = record {
  number = packet.number;
  link = packet.link;
  time = packet.time;
  original = packet.original;
  octets = packet.octets.items;
}

-- the packet with a number that a record of the octets s holds
abbrev pub packet_of : ℕ → Record → List ℕ → Captured
packet_of count stands s = record {
  number = count;
  link = stands.link;
  time = stands.time;
  original = stands.original;
  octets = take stands.captured (drop stands.start s);
}

-- the interface that an enhanced packet block (6) names in four octets, and the obsolete one (2) in two
abbrev pub interface_number : Order → List ℕ → ℕ
interface_number order s =
    if nat_eq (ordered_number order 4 s) 6 then ordered_number order 4 (drop 8 s) else ordered_number order 2 (drop 8 s)

-- the packet of such a block: its time is a number of eight octets, the higher four first
abbrev pub timed_record : Order → Interface → List ℕ → Record
timed_record order interface s = record {
  link = interface.link;
  time = Some (time_of interface.resolution interface.offset
      (ordered_number order 4 (drop 12 s) * 4294967296 + ordered_number order 4 (drop 16 s)));
  original = ordered_number order 4 (drop 24 s);
  start = 28;
  captured = ordered_number order 4 (drop 20 s);
}

pub record IsTimedPacket (order : Order) (interface : Interface) (s : List ℕ) (stands : Record) : Type 0 where
  pub within : 32 + ordered_number order 4 (drop 20 s) ≤ length s
  pub most : ordered_number order 4 (drop 20 s) ≤ 262144
  pub says : stands ≡ timed_record order interface s

-- an enhanced or obsolete packet block, whose interface is described
abbrev pub IsTimedBlock : Order → List Interface → List ℕ → Record → Type 0
IsTimedBlock order interfaces s stands =
    (interface : Interface) × (slice_get interfaces (interface_number order s) ≡ Some interface) ×
    IsTimedPacket order interface s stands

-- what is wrong with the octets captured, in a block of 32 octets at least
abbrev pub HasCapturedFault : Order → List ℕ → FaultKind → Type 0
HasCapturedFault order s WrongLength = length s < 32 + ordered_number order 4 (drop 20 s)
HasCapturedFault order s RecordTooLong =
    (32 + ordered_number order 4 (drop 20 s) ≤ length s) × (262144 < ordered_number order 4 (drop 20 s))
HasCapturedFault order s _ = ⊥

abbrev pub HasTimedFault : Order → List Interface → List ℕ → FaultKind → Type 0
HasTimedFault order interfaces s UnknownInterface =
    (32 ≤ length s) × (slice_get interfaces (interface_number order s) ≡ None)
HasTimedFault order interfaces s fault =
    ((fault ≡ WrongLength) × (length s < 32)) ⊎
    ((interface : Interface) × (slice_get interfaces (interface_number order s) ≡ Some interface) ×
    (32 ≤ length s) × HasCapturedFault order s fault)

-- how many octets a simple packet block (3) has of its packet: all, or as many as its interface's limit
abbrev pub simple_captured : Interface → ℕ → ℕ
simple_captured interface original =
    if nat_eq interface.limit 0 then original else min original interface.limit

abbrev pub captured_simple : Order → Interface → List ℕ → ℕ
captured_simple order interface s = simple_captured interface (ordered_number order 4 (drop 8 s))

abbrev pub simple_record : Order → Interface → List ℕ → Record
simple_record order interface s = record {
  link = interface.link;
  time = None;
  original = ordered_number order 4 (drop 8 s);
  start = 12;
  captured = captured_simple order interface s;
}

pub record IsSimplePacket (order : Order) (interface : Interface) (s : List ℕ) (stands : Record) : Type 0 where
  pub within : 16 + captured_simple order interface s ≤ length s
  pub most : captured_simple order interface s ≤ 262144
  pub says : stands ≡ simple_record order interface s

-- a simple packet block is one of the section's first interface
abbrev pub IsSimpleBlock : Order → List Interface → List ℕ → Record → Type 0
IsSimpleBlock order interfaces s stands =
    (interface : Interface) × (slice_get interfaces 0 ≡ Some interface) × IsSimplePacket order interface s stands

abbrev pub HasSimpleLengthFault : Order → Interface → List ℕ → FaultKind → Type 0
HasSimpleLengthFault order interface s WrongLength = length s < 16 + captured_simple order interface s
HasSimpleLengthFault order interface s RecordTooLong =
    (16 + captured_simple order interface s ≤ length s) × (262144 < captured_simple order interface s)
HasSimpleLengthFault order interface s _ = ⊥

abbrev pub HasSimpleFault : Order → List Interface → List ℕ → FaultKind → Type 0
HasSimpleFault order interfaces s UnknownInterface = (16 ≤ length s) × (slice_get interfaces 0 ≡ None)
HasSimpleFault order interfaces s fault =
    ((fault ≡ WrongLength) × (length s < 16)) ⊎
    ((interface : Interface) × (slice_get interfaces 0 ≡ Some interface) × (16 ≤ length s) ×
    HasSimpleLengthFault order interface s fault)
