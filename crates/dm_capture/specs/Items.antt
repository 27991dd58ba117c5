-- What stands at the front of the octets that are left: a whole header, record or block, a part of one, or a fault.
use Rattle.std.specs.Prelude.{◌≡◌, ◌≢◌, ◌⊎◌, ℕ, ◌<◌, ◌≤◌, None, List, length}
use Rattle.dm_capture.specs.declared.order.Order.TheVariants.{Big}
use Rattle.dm_capture.specs.declared.interface.Interface.{Interface}
use Rattle.dm_capture.specs.declared.front_item.Layout.{Layout}
use Rattle.dm_capture.specs.declared.front_item.Layout.TheVariants.{Start, Pcap, Pcapng}
use Rattle.dm_capture.specs.declared.front_item.Holds.{Holds}
use Rattle.dm_capture.specs.declared.fault.FaultKind.{FaultKind}
use Rattle.dm_capture.specs.declared.fault.FaultKind.TheVariants.{NoCapture}
use Rattle.dm_capture.specs.Numbers.{ordered_number}
use Rattle.dm_capture.specs.Blocks.{section_type}
use Rattle.dm_capture.specs.Pcap.{magic_of, IsPcapHeader, IsHeaderPart, HasHeaderFault}
use Rattle.dm_capture.specs.Pcap.{IsPcapRecord, IsRecordPart, HasRecordFault}
use Rattle.dm_capture.specs.Sections.{IsSectionHeader, IsSectionPart, HasSectionFault}
use Rattle.dm_capture.specs.Contents.{IsSectionItem, IsSectionItemPart, HasSectionItemFault}

-- s is a whole header, record or block, where so much of the file is known
abbrev pub IsItem : Layout → List Interface → List ℕ → Holds → Type 0
IsItem Start interfaces s holds = IsPcapHeader s holds ⊎ IsSectionHeader s holds
IsItem (Pcap form) interfaces s holds = IsPcapRecord form s holds
IsItem (Pcapng order) interfaces s holds = IsSectionItem order interfaces s holds

-- s begins with none that is whole, and has no fault yet
abbrev pub IsPart : Layout → List ℕ → Type 0
IsPart Start s =
    (length s < 4) ⊎
    ((4 ≤ length s) × (ordered_number Big 4 s ≡ section_type) × IsSectionPart s) ⊎
    ((4 ≤ length s) × (ordered_number Big 4 s ≢ section_type) × (magic_of s ≢ None) × IsHeaderPart s)
IsPart (Pcap form) s = IsRecordPart form s
IsPart (Pcapng order) s = IsSectionItemPart order s

-- a fault stands at the front of s
abbrev pub HasFrontFault : Layout → List Interface → List ℕ → FaultKind → Type 0
HasFrontFault Start interfaces s fault =
    ((4 ≤ length s) × (ordered_number Big 4 s ≡ section_type) × HasSectionFault s fault) ⊎
    ((4 ≤ length s) × (ordered_number Big 4 s ≢ section_type) ×
    (((magic_of s ≡ None) × (fault ≡ NoCapture)) ⊎ HasHeaderFault s fault))
HasFrontFault (Pcap form) interfaces s fault = HasRecordFault form s fault
HasFrontFault (Pcapng order) interfaces s fault = HasSectionItemFault order interfaces s fault
