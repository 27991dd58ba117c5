-- A capture as its reader sees it: what was passed, and what is left.
use Rattle.std.specs.Prelude.{◌≡◌, ℕ, ◌+◌, ◌-◌, ◌^◌, ◌<◌, min, Option, None}
use Rattle.std.specs.Prelude.{Some, Result, Ok, Err, List, [], ◌∷◌, ◌++◌, length}
use Rattle.dm_capture.specs.declared.interface.Interface.{Interface}
use Rattle.dm_capture.specs.declared.front_item.Layout.{Layout}
use Rattle.dm_capture.specs.declared.front_item.Layout.TheVariants.{Start, Pcap, Pcapng}
use Rattle.dm_capture.specs.declared.front_item.Holds.{Holds}
use Rattle.dm_capture.specs.declared.front_item.Holds.TheVariants.{Form, Section, Description, PacketRecord}
use Rattle.dm_capture.specs.declared.packet.Packet.{Packet}
use Rattle.dm_capture.specs.declared.fault.CaptureFault.{CaptureFault}
use Rattle.dm_capture.specs.declared.fault.FaultKind.{FaultKind}
use Rattle.dm_capture.specs.declared.fault.FaultKind.TheVariants.{NoCapture, CutRecord, OutOfMemory}
use Rattle.dm_capture.specs.Packets.{Captured, captured_of, packet_of}
use Rattle.dm_capture.specs.Items.{IsItem, IsPart, HasFrontFault}

-- the octets fed and not yet passed, how many were passed, what is known of the file, how many packets were handed
-- out, and the fault that is kept
pub record Progress : Type 0 where
  pub octets : List ℕ
  pub offset : ℕ
  pub layout : Layout
  pub interfaces : List Interface
  pub packets : ℕ
  pub fault : Option CaptureFault

-- no octets were fed
abbrev pub new_progress : Progress
new_progress = record { octets = []; offset = 0; layout = Start; interfaces = []; packets = 0; fault = None }

-- a number that is counted in 64 bits
abbrev pub capped : ℕ → ℕ
capped n = min n (2 ^ 64 - 1)

-- a header, record or block, and what it says
pub record HeldItem : Type 0 where
  pub octets : List ℕ
  pub holds : Holds

abbrev pub layout_after : Layout → Holds → Layout
layout_after layout (Form form) = Pcap form
layout_after layout (Section order) = Pcapng order
layout_after layout _ = layout

-- a section's header forgets the interfaces before it
abbrev pub interfaces_after : List Interface → Holds → List Interface
interfaces_after interfaces (Section order) = []
interfaces_after interfaces (Description interface) = interfaces ++ interface ∷ []
interfaces_after interfaces _ = interfaces

abbrev pub packets_after : ℕ → Holds → ℕ
packets_after packets (PacketRecord stands) = capped (packets + 1)
packets_after packets _ = packets

-- so many octets were passed, and the rest is left
abbrev pub passed : Progress → ℕ → Holds → List ℕ → Progress
passed before size holds rest = record {
  octets = rest;
  offset = capped (before.offset + size);
  layout = layout_after before.layout holds;
  interfaces = interfaces_after before.interfaces holds;
  packets = packets_after before.packets holds;
  fault = before.fault;
}

-- from one progress to another, the octets begin with these items
abbrev pub ItemsLead : Progress → List HeldItem → Progress → Type 0
ItemsLead before [] after = before ≡ after
ItemsLead before (item ∷ items) after =
    IsItem before.layout before.interfaces item.octets item.holds ×
    (rest : List ℕ) × (before.octets ≡ item.octets ++ rest) ×
    ItemsLead (passed before (length item.octets) item.holds rest) items after

-- the packet of an item, if it holds one, where so many were handed out before it
abbrev pub packet_in : ℕ → List ℕ → Holds → List Captured
packet_in packets s (PacketRecord stands) = packet_of (capped (packets + 1)) stands s ∷ []
packet_in packets s _ = []

-- the packets of items, in their order
abbrev pub packets_of : ℕ → List HeldItem → List Captured
packets_of packets [] = []
packets_of packets (item ∷ items) =
    packet_in packets item.octets item.holds ++ packets_of (packets_after packets item.holds) items

-- why nothing is handed out, and what is left then
abbrev pub StopsReading : FaultKind → CaptureFault → Progress → Progress → Type 0
StopsReading OutOfMemory fault before after = after ≡ before
StopsReading kind fault before after =
    HasFrontFault before.layout before.interfaces before.octets kind × (after ≡ record before { fault = Some fault })

-- what a call for the next packet answers, and what it leaves
abbrev pub Hands : Progress → Progress → Result (Option Packet) CaptureFault → Type 0
Hands old new (Ok (Some packet)) =
    (items : List HeldItem) × ItemsLead old items new × (packets_of old.packets items ≡ captured_of packet ∷ [])
Hands old new (Ok None) =
    (items : List HeldItem) × ItemsLead old items new × (packets_of old.packets items ≡ []) ×
    IsPart new.layout new.octets
Hands old new (Err fault) =
    (items : List HeldItem) × (before : Progress) × ItemsLead old items before × (packets_of old.packets items ≡ []) ×
    (fault.offset ≡ before.offset) × StopsReading fault.kind fault before new

-- what is wrong where the file ends
abbrev pub EndsWith : Progress → FaultKind → Type 0
EndsWith progress NoCapture = (progress.layout ≡ Start) × (progress.octets ≡ [])
EndsWith progress CutRecord = 0 < length progress.octets
EndsWith progress _ = ⊥
