-- No item stands where a part of one does.
use Rattle.std.proofs.Common.{◌≡◌, ◌≤◌, inl, inr, ℕ, ◌+◌, List, ◌++◌, length, drop, sym, ◌∙◌, ap, subst, arith, length-append}
use Rattle.dm_capture.specs.declared.order.Order.{Order}
use Rattle.dm_capture.specs.declared.order.Order.TheVariants.{Big, Little}
use Rattle.dm_capture.specs.declared.interface.Interface.{Interface}
use Rattle.dm_capture.specs.declared.pcap.PcapForm.{PcapForm}
use Rattle.dm_capture.specs.declared.packet.Record.{Record}
use Rattle.dm_capture.specs.declared.front_item.Layout.{Layout}
use Rattle.dm_capture.specs.declared.front_item.Layout.TheVariants.{Start, Pcap, Pcapng}
use Rattle.dm_capture.specs.declared.front_item.Holds.{Holds}
use Rattle.dm_capture.specs.Numbers.{ordered_number}
use Rattle.dm_capture.specs.Blocks.{IsBlock, IsBlockPart}
use Rattle.dm_capture.specs.Pcap.{IsRecord, IsRecordPart}
use Rattle.dm_capture.specs.Sections.{section_order, order_by, IsSection, IsSectionPart}
use Rattle.dm_capture.specs.Contents.{IsSectionItemPart}
use Rattle.dm_capture.specs.Items.{IsItem, IsPart}
use Rattle.dm_capture.proofs.One.{number_behind, same_some, first_item, in_section, standing, IsFirst, InSection, IsStanding}
use Rattle.dm_capture.proofs.One.IsFirst.{first_form, first_section}
use Rattle.dm_capture.proofs.One.InSection.{a_section, a_block}
use Rattle.dm_capture.proofs.One.IsStanding.{a_record}

-- the type of what stands at a front
pub kind_behind : (s x : List ℕ) → 4 ≤ length s → ordered_number Big 4 (s ++ x) ≡ ordered_number Big 4 s
kind_behind s x has = number_behind Big 4 0 s x (omega arith)

pub order_behind : (s x : List ℕ) → 12 ≤ length s → section_order (s ++ x) ≡ section_order s
order_behind s x has =
    ap (λ n. order_by n (ordered_number Little 4 (drop 8 (s ++ x)))) (number_behind Big 4 8 s x (omega arith)) ∙
    ap (λ n. order_by (ordered_number Big 4 (drop 8 s)) n) (number_behind Little 4 8 s x (omega arith))

block_or_part : (order : Order) (s x : List ℕ) → IsBlock order s → IsBlockPart order (s ++ x) → ⊥
block_or_part order s x is (inl short) = omega (arith, length-append s x, is.fits.least)
block_or_part order s x is (inr (less, fits)) =
    let has : 4 + 4 ≤ length s = omega (arith, is.fits.least) in
    omega (arith, length-append s x, number_behind order 4 4 s x has, is.size, less)

section_or_part : (order : Order) (s x : List ℕ) → IsSection order s → IsSectionPart (s ++ x) → ⊥
section_or_part order s x is (inl short) = omega (arith, length-append s x, is.least)
section_or_part order s x is (inr (has, other, ordered, part)) =
    let same : other ≡ order =
    same_some other order (sym ordered ∙ order_behind s x (omega (arith, is.least)) ∙ is.ordered) in
    block_or_part order s x is.block (subst (λ (o : Order). IsBlockPart o (s ++ x)) same part)

first_or_part : (s x : List ℕ) (holds : Holds) → IsFirst s holds → IsPart Start (s ++ x) → ⊥
first_or_part s x holds (first_form form at is) (inl short) = omega (arith, length-append s x, is.size)
first_or_part s x holds (first_form form at is) (inr (inl (has, kind, part))) =
    is.no_section (sym (kind_behind s x (omega (arith, is.size))) ∙ kind)
first_or_part s x holds (first_form form at is) (inr (inr (has, kind, magic, part))) =
    omega (arith, length-append s x, is.size, part)
first_or_part s x holds (first_section order at is) (inl short) = omega (arith, length-append s x, is.least)
first_or_part s x holds (first_section order at is) (inr (inl (has, kind, part))) =
    section_or_part order s x is part
first_or_part s x holds (first_section order at is) (inr (inr (has, kind, magic, part))) =
    kind (kind_behind s x (omega (arith, is.least)) ∙ is.kind)

record_or_part : (form : PcapForm) (stands : Record) (s x : List ℕ) → IsRecord form s stands →
    IsRecordPart form (s ++ x) → ⊥
record_or_part form stands s x is (inl short) = omega (arith, length-append s x, is.size)
record_or_part form stands s x is (inr (has, most, less)) =
    let there : 8 + 4 ≤ length s = omega (arith, is.size) in
    omega (arith, length-append s x, number_behind form.order 4 8 s x there, is.size, less)

standing_or_part : (form : PcapForm) (s x : List ℕ) (holds : Holds) → IsStanding form s holds →
    IsRecordPart form (s ++ x) → ⊥
standing_or_part form s x holds (a_record stands at is) part = record_or_part form stands s x is part

item_or_part_in : (order : Order) (interfaces : List Interface) (s x : List ℕ) (holds : Holds) →
    InSection order interfaces s holds → IsSectionItemPart order (s ++ x) → ⊥
item_or_part_in order interfaces s x holds (a_section next at is) (inl short) =
    omega (arith, length-append s x, is.least)
item_or_part_in order interfaces s x holds (a_section next at is) (inr (inl (has, kind, part))) =
    section_or_part next s x is part
item_or_part_in order interfaces s x holds (a_section next at is) (inr (inr (has, kind, part))) =
    kind (kind_behind s x (omega (arith, is.least)) ∙ is.kind)
item_or_part_in order interfaces s x holds (a_block is) (inl short) =
    omega (arith, length-append s x, is.block.fits.least)
item_or_part_in order interfaces s x holds (a_block is) (inr (inl (has, kind, part))) =
    is.no_section (sym (kind_behind s x (omega (arith, is.block.fits.least))) ∙ kind)
item_or_part_in order interfaces s x holds (a_block is) (inr (inr (has, kind, part))) =
    block_or_part order s x is.block part

pub item_or_part : (layout : Layout) (interfaces : List Interface) (s x : List ℕ) (holds : Holds) →
    IsItem layout interfaces s holds → IsPart layout (s ++ x) → ⊥
item_or_part Start interfaces s x holds h part = first_or_part s x holds (first_item s holds h) part
item_or_part (Pcap form) interfaces s x holds h part = standing_or_part form s x holds (standing form s holds h) part
item_or_part (Pcapng order) interfaces s x holds h part =
    item_or_part_in order interfaces s x holds (in_section order interfaces s holds h) part
