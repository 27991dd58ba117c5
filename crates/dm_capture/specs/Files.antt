-- Whole capture files, as the records and blocks that spell them.
use Rattle.std.specs.Prelude.{◌≡◌, ℕ, List, [], ◌∷◌, ◌++◌}
use Rattle.std.specs.List.{AllByRecursion, flat_map}
use Rattle.dm_capture.specs.declared.order.Order.{Order}
use Rattle.dm_capture.specs.declared.interface.Interface.{Interface}
use Rattle.dm_capture.specs.declared.pcap.PcapForm.{PcapForm}
use Rattle.dm_capture.specs.declared.front_item.Holds.TheVariants.{Section}
use Rattle.dm_capture.specs.Packets.{Captured}
use Rattle.dm_capture.specs.Pcap.{IsForm, IsPcapRecord}
use Rattle.dm_capture.specs.Sections.{IsSection}
use Rattle.dm_capture.specs.Contents.{IsBlockItem}
use Rattle.dm_capture.specs.Captures.{HeldItem, packets_of, interfaces_after}

-- the octets of records or blocks, one after the other
abbrev pub octets_of : List HeldItem → List ℕ
octets_of [] = []
octets_of (item ∷ items) = item.octets ++ octets_of items

-- a pcap file: its header, and records
abbrev pub IsPcap : List ℕ → List Captured → Type 0
IsPcap s packets =
    (form : PcapForm) × (header : List ℕ) × (records : List HeldItem) × IsForm header form ×
    AllByRecursion (λ item. IsPcapRecord form item.octets item.holds) records ×
    (s ≡ header ++ octets_of records) × (packets ≡ packets_of 0 records)

-- blocks of a section, each with the interfaces that those before it describe
abbrev pub AreBlocks : Order → List Interface → List HeldItem → Type 0
AreBlocks order interfaces [] = Unit {0}
AreBlocks order interfaces (item ∷ items) =
    IsBlockItem order interfaces item.octets item.holds ×
    AreBlocks order (interfaces_after interfaces item.holds) items

-- a section: its header, and blocks
pub record BlockSection : Type 0 where
  pub order : Order
  pub header : List ℕ
  pub blocks : List HeldItem

pub record IsWholeSection (section : BlockSection) : Type 0 where
  pub header : IsSection section.order section.header
  pub blocks : AreBlocks section.order [] section.blocks

abbrev pub items_of : BlockSection → List HeldItem
items_of section = record { octets = section.header; holds = Section section.order } ∷ section.blocks

-- a pcapng file: sections, one at least
abbrev pub IsPcapng : List ℕ → List Captured → Type 0
IsPcapng s packets =
    (first : BlockSection) × (others : List BlockSection) × AllByRecursion IsWholeSection (first ∷ others) ×
    (s ≡ octets_of (flat_map items_of (first ∷ others))) ×
    (packets ≡ packets_of 0 (flat_map items_of (first ∷ others)))
