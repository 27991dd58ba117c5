-- What the blocks of a section say.
use Rattle.std.specs.Prelude.{◌≡◌, ◌≢◌, ◌⊎◌, ℕ, ◌<◌, ◌≤◌, List, length, take}
use Rattle.dm_capture.specs.declared.order.Order.{Order}
use Rattle.dm_capture.specs.declared.order.Order.TheVariants.{Big}
use Rattle.dm_capture.specs.declared.interface.Interface.{Interface}
use Rattle.dm_capture.specs.declared.front_item.Holds.{Holds}
use Rattle.dm_capture.specs.declared.front_item.Holds.TheVariants.{Section, Description, PacketRecord, Other}
use Rattle.dm_capture.specs.declared.fault.FaultKind.{FaultKind}
use Rattle.dm_capture.specs.Numbers.{ordered_number}
use Rattle.dm_capture.specs.Blocks.{section_type, block_type, block_size, IsBlock, IsBlockPart, HasLengthFault}
use Rattle.dm_capture.specs.Interfaces.{IsInterface, HasInterfaceFault}
use Rattle.dm_capture.specs.Packets.{IsTimedBlock, HasTimedFault, IsSimpleBlock, HasSimpleFault}
use Rattle.dm_capture.specs.Sections.{IsSectionHeader, HasSectionFault, IsSectionPart}

-- an enhanced packet block (6), or the obsolete packet block (2)
abbrev pub IsTimedType : ℕ → Type 0
IsTimedType n = (n ≡ 2) ⊎ (n ≡ 6)

-- a block that is passed by
pub record IsOtherType (n : ℕ) : Type 0 where
  pub no_interface : n ≢ 1
  pub no_packet : n ≢ 2
  pub no_simple_packet : n ≢ 3
  pub no_enhanced_packet : n ≢ 6

-- what a block of a section says, but for a section's header
abbrev pub BlockHolds : Order → List Interface → List ℕ → Holds → Type 0
BlockHolds order interfaces s (Description interface) =
    (block_type order s ≡ 1) × (length interfaces < 65536) × IsInterface order s interface
BlockHolds order interfaces s (PacketRecord stands) =
    (IsTimedType (block_type order s) × IsTimedBlock order interfaces s stands) ⊎
    ((block_type order s ≡ 3) × IsSimpleBlock order interfaces s stands)
BlockHolds order interfaces s Other = IsOtherType (block_type order s)
BlockHolds order interfaces s _ = ⊥

-- what is wrong with it
abbrev pub HasContentFault : Order → List Interface → List ℕ → FaultKind → Type 0
HasContentFault order interfaces s fault =
    ((block_type order s ≡ 1) × HasInterfaceFault interfaces s fault) ⊎
    (IsTimedType (block_type order s) × HasTimedFault order interfaces s fault) ⊎
    ((block_type order s ≡ 3) × HasSimpleFault order interfaces s fault)

-- a whole block that is no section's header, and what it says
pub record IsBlockItem (order : Order) (interfaces : List Interface) (s : List ℕ) (holds : Holds) : Type 0 where
  pub no_section : ordered_number Big 4 s ≢ section_type
  pub block : IsBlock order s
  pub says : BlockHolds order interfaces s holds

-- what is wrong with the block at the front
abbrev pub HasBlockFault : Order → List Interface → List ℕ → FaultKind → Type 0
HasBlockFault order interfaces s fault =
    HasLengthFault order s fault ⊎
    (IsBlock order (take (block_size order s) s) ×
    HasContentFault order interfaces (take (block_size order s) s) fault)

-- the same of what is left in a section, where the header of the next may stand
abbrev pub IsSectionItem : Order → List Interface → List ℕ → Holds → Type 0
IsSectionItem order interfaces s (Section next) = IsSectionHeader s (Section next)
IsSectionItem order interfaces s holds = IsBlockItem order interfaces s holds

abbrev pub IsSectionItemPart : Order → List ℕ → Type 0
IsSectionItemPart order s =
    (length s < 8) ⊎
    ((8 ≤ length s) × (ordered_number Big 4 s ≡ section_type) × IsSectionPart s) ⊎
    ((8 ≤ length s) × (ordered_number Big 4 s ≢ section_type) × IsBlockPart order s)

abbrev pub HasSectionItemFault : Order → List Interface → List ℕ → FaultKind → Type 0
HasSectionItemFault order interfaces s fault =
    ((8 ≤ length s) × (ordered_number Big 4 s ≡ section_type) × HasSectionFault s fault) ⊎
    ((8 ≤ length s) × (ordered_number Big 4 s ≢ section_type) × HasBlockFault order interfaces s fault)
