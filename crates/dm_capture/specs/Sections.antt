-- The header of a section of a pcapng file, which tells the order of the section's octets.
use Rattle.std.specs.Prelude.{◌≡◌, ◌≢◌, ◌⊎◌, ℕ, ◌<◌, ◌≤◌, nat_eq, Option}
use Rattle.std.specs.Prelude.{None, Some, if◌then◌else◌, List, length, take, drop}
use Rattle.dm_capture.specs.declared.order.Order.{Order}
use Rattle.dm_capture.specs.declared.order.Order.TheVariants.{Big, Little}
use Rattle.dm_capture.specs.declared.front_item.Holds.{Holds}
use Rattle.dm_capture.specs.declared.front_item.Holds.TheVariants.{Section}
use Rattle.dm_capture.specs.declared.fault.FaultKind.{FaultKind}
use Rattle.dm_capture.specs.declared.fault.FaultKind.TheVariants.{NoCapture, OtherVersion, WrongLength}
use Rattle.dm_capture.specs.Numbers.{ordered_number}
use Rattle.dm_capture.specs.Blocks.{section_type, block_size, IsBlock, IsBlockPart, HasLengthFault}

-- the order in which the third four octets are 0x1A2B3C4D
abbrev pub order_by : ℕ → ℕ → Option Order
order_by big little =
    if nat_eq big 0x1a2b3c4d then Some Big else (if nat_eq little 0x1a2b3c4d then Some Little else None)

abbrev pub section_order : List ℕ → Option Order
section_order s = order_by (ordered_number Big 4 (drop 8 s)) (ordered_number Little 4 (drop 8 s))

-- a section's header of version 1
pub record IsSection (order : Order) (s : List ℕ) : Type 0 where
  pub kind : ordered_number Big 4 s ≡ section_type
  pub ordered : section_order s ≡ Some order
  pub block : IsBlock order s
  pub least : 28 ≤ length s
  pub version : ordered_number order 2 (drop 12 s) ≡ 1

abbrev pub IsSectionHeader : List ℕ → Holds → Type 0
IsSectionHeader s (Section order) = IsSection order s
IsSectionHeader s _ = ⊥

-- the section's header at the front isn't whole yet
abbrev pub IsSectionPart : List ℕ → Type 0
IsSectionPart s =
    (length s < 12) ⊎
    ((12 ≤ length s) × (order : Order) × (section_order s ≡ Some order) × IsBlockPart order s)

-- what is wrong with a section's whole block
abbrev pub HasSectionContentFault : Order → List ℕ → FaultKind → Type 0
HasSectionContentFault order s WrongLength = length s < 28
HasSectionContentFault order s OtherVersion = (28 ≤ length s) × (ordered_number order 2 (drop 12 s) ≢ 1)
HasSectionContentFault order s _ = ⊥

-- what is wrong with the section's header at the front, of which 12 octets are there
abbrev pub HasSectionFault : List ℕ → FaultKind → Type 0
HasSectionFault s NoCapture = (12 ≤ length s) × (section_order s ≡ None)
HasSectionFault s fault =
    (12 ≤ length s) × (order : Order) × (section_order s ≡ Some order) ×
    (HasLengthFault order s fault ⊎
    (IsBlock order (take (block_size order s) s) ×
    HasSectionContentFault order (take (block_size order s) s) fault))
