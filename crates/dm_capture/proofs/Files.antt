-- Files of records and of sections are read to their end.
use Rattle.std.proofs.Common.{◌≡◌, ℕ, List, [], ◌∷◌, ◌++◌, length, refl, sym, ◌∙◌, ap, subst, inl, inr, append_assoc, append-nil}
use Rattle.std.specs.List.{AllByRecursion, flat_map}
use Rattle.dm_capture.specs.declared.order.Order.{Order}
use Rattle.dm_capture.specs.declared.interface.Interface.{Interface}
use Rattle.dm_capture.specs.declared.front_item.Layout.{Layout}
use Rattle.dm_capture.specs.declared.front_item.Layout.TheVariants.{Start, Pcap, Pcapng}
use Rattle.dm_capture.specs.declared.front_item.Holds.{Holds}
use Rattle.dm_capture.specs.declared.front_item.Holds.TheVariants.{Form, Section, Description, PacketRecord, Other}
use Rattle.dm_capture.specs.declared.pcap.PcapForm.{PcapForm}
use Rattle.dm_capture.specs.Packets.{Captured}
use Rattle.dm_capture.specs.Pcap.{IsPcapRecord}
use Rattle.dm_capture.specs.Sections.{IsSection}
use Rattle.dm_capture.specs.Contents.{IsBlockItem}
use Rattle.dm_capture.specs.Items.{IsItem}
use Rattle.dm_capture.specs.Captures.{Progress, HeldItem, ItemsLead, packets_of, passed, new_progress, interfaces_after, layout_after}
use Rattle.dm_capture.specs.Files.{octets_of, IsPcap, IsPcapng, AreBlocks, BlockSection, IsWholeSection, items_of}
use Rattle.dm_capture.specs.Laws.{with_piece, IsRead}
use Rattle.dm_capture.proofs.Runs.{leads_join, packets_join}

-- what comes later changes nothing
pub cuts : (begun end : Progress) (items : List HeldItem) (piece : List ℕ) → ItemsLead begun items end →
    ItemsLead (with_piece begun piece) items (with_piece end piece)
cuts begun end [] piece e = ap (λ p. with_piece p piece) e
cuts begun end (item ∷ items) piece h = (
  h.0,
  h.1 ++ piece,
  ap (λ l. l ++ piece) h.2 ∙ append_assoc item.octets h.1 piece,
  cuts (passed begun (length item.octets) item.holds h.1) end items piece h.3,
)

-- items lead on from where so much is known, whatever stands behind them
abbrev Goes : Layout → List Interface → List HeldItem → (Progress → Type 0) → Type 0
Goes layout interfaces items End =
    (begun : Progress) (rest : List ℕ) → begun.layout ≡ layout → begun.interfaces ≡ interfaces →
    begun.octets ≡ octets_of items ++ rest →
    (end : Progress) × ItemsLead begun items end × (end.octets ≡ rest) × End end

-- one item more, in front
goes_before : (layout next : Layout) (interfaces more : List Interface) (item : HeldItem) (items : List HeldItem)
    (End : Progress → Type 0) → IsItem layout interfaces item.octets item.holds →
    layout_after layout item.holds ≡ next → interfaces_after interfaces item.holds ≡ more → Goes next more items End →
    Goes layout interfaces (item ∷ items) End
goes_before layout next interfaces more item items End is to knows goes begun rest at known spelled =
    let behind : List ℕ = octets_of items ++ rest in
    let later = goes (passed begun (length item.octets) item.holds behind) rest
    (ap (λ l. layout_after l item.holds) at ∙ to) (ap (λ l. interfaces_after l item.holds) known ∙ knows) refl in
    let Q : Layout → Type 0 = λ l. IsItem l interfaces item.octets item.holds in
    let P : List Interface → Type 0 = λ l. IsItem begun.layout l item.octets item.holds in (
      later.0,
      (
        subst P (sym known) (subst Q (sym at) is),
        behind,
        spelled ∙ append_assoc item.octets (octets_of items) rest,
        later.1,
      ),
      later.2,
      later.3,
    )

-- a record leaves what is known as it is
record_keeps : (form : PcapForm) (s : List ℕ) (holds : Holds) → IsPcapRecord form s holds →
    (layout_after (Pcap form) holds ≡ Pcap form) × (interfaces_after [] holds ≡ [])
record_keeps form s (Form other) h = absurd h
record_keeps form s (Section order) h = absurd h
record_keeps form s (Description interface) h = absurd h
record_keeps form s (PacketRecord stands) h = (refl, refl)
record_keeps form s Other h = absurd h

abbrev Anywhere : Progress → Type 0
Anywhere end = Unit {0}

records_go : (form : PcapForm) (records : List HeldItem) →
    AllByRecursion (λ item. IsPcapRecord form item.octets item.holds) records →
    Goes (Pcap form) [] records Anywhere
records_go form [] all = λ begun rest at known spelled. (begun, refl, spelled, tt)
records_go form (item ∷ items) all =
    let keeps = record_keeps form item.octets item.holds all.0 in
    goes_before (Pcap form) (Pcap form) [] [] item items Anywhere all.0 keeps.0 keeps.1 (records_go form items all.1)

pub each_pcap_is_read : (s : List ℕ) (packets : List Captured) → IsPcap s packets → IsRead s packets
each_pcap_is_read s packets (form, header, records, is, all, spelled, says) =
    let item : HeldItem = record { octets = header; holds = Form form } in
    let goes = goes_before Start (Pcap form) [] [] item records Anywhere (inl is) refl refl (records_go form records all)
    (with_piece new_progress s) [] refl refl
    (spelled ∙ sym (append-nil (header ++ octets_of records))) in
    (item ∷ records, goes.0, goes.1, goes.2, sym says)

-- a block keeps the order of its section
block_keeps : (order : Order) (interfaces : List Interface) (s : List ℕ) (holds : Holds) →
    IsBlockItem order interfaces s holds →
    IsItem (Pcapng order) interfaces s holds × (layout_after (Pcapng order) holds ≡ Pcapng order)
block_keeps order interfaces s (Form form) h = absurd h.says
block_keeps order interfaces s (Section next) h = absurd h.says
block_keeps order interfaces s (Description interface) h = (h, refl)
block_keeps order interfaces s (PacketRecord stands) h = (h, refl)
block_keeps order interfaces s Other h = (h, refl)

abbrev InSection : Order → Progress → Type 0
InSection order end = end.layout ≡ Pcapng order

blocks_go : (order : Order) (interfaces : List Interface) (blocks : List HeldItem) → AreBlocks order interfaces blocks →
    Goes (Pcapng order) interfaces blocks (InSection order)
blocks_go order interfaces [] all = λ begun rest at known spelled. (begun, refl, spelled, at)
blocks_go order interfaces (item ∷ items) all =
    let keeps = block_keeps order interfaces item.octets item.holds all.0 in
    let more : List Interface = interfaces_after interfaces item.holds in
    goes_before (Pcapng order) (Pcapng order) interfaces more item items (InSection order) keeps.0 keeps.1 refl
    (blocks_go order more items all.1)

-- where a section may begin
abbrev MayBegin : Layout → Type 0
MayBegin Start = Unit {0}
MayBegin (Pcap form) = ⊥
MayBegin (Pcapng order) = Unit {0}

section_item : (layout : Layout) (interfaces : List Interface) (order : Order) (s : List ℕ) → MayBegin layout →
    IsSection order s → IsItem layout interfaces s (Section order)
section_item Start interfaces order s may is = inr is
section_item (Pcap form) interfaces order s may is = absurd may
section_item (Pcapng other) interfaces order s may is = is

octets_join : (xs ys : List HeldItem) → octets_of (xs ++ ys) ≡ octets_of xs ++ octets_of ys
octets_join [] ys = refl
octets_join (x ∷ xs) ys =
    ap (λ l. x.octets ++ l) (octets_join xs ys) ∙ sym (append_assoc x.octets (octets_of xs) (octets_of ys))

sections_go : (sections : List BlockSection) → AllByRecursion IsWholeSection sections → (begun : Progress)
    (rest : List ℕ) → MayBegin begun.layout → begun.octets ≡ octets_of (flat_map items_of sections) ++ rest →
    (end : Progress) × ItemsLead begun (flat_map items_of sections) end × (end.octets ≡ rest)
sections_go [] all begun rest may spelled = (begun, refl, spelled)
sections_go (section ∷ sections) all begun rest may spelled =
    let later : List HeldItem = flat_map items_of sections in
    let behind : List ℕ = octets_of later ++ rest in
    let here : begun.octets ≡ octets_of (items_of section) ++ behind =
    spelled ∙ ap (λ l. l ++ rest) (octets_join (items_of section) later) ∙
    append_assoc (octets_of (items_of section)) (octets_of later) rest in
    let item : HeldItem = record { octets = section.header; holds = Section section.order } in
    let goes = goes_before begun.layout (Pcapng section.order) begun.interfaces [] item section.blocks
    (InSection section.order)
    (section_item begun.layout begun.interfaces section.order section.header may all.0.header) refl refl
    (blocks_go section.order [] section.blocks all.0.blocks) begun behind refl refl here in
    let others = sections_go sections all.1 goes.0 rest (subst MayBegin (sym goes.3) tt) goes.2 in (
      others.0,
      leads_join begun goes.0 others.0 (items_of section) later goes.1 others.1,
      others.2,
    )

pub each_pcapng_is_read : (s : List ℕ) (packets : List Captured) → IsPcapng s packets → IsRead s packets
each_pcapng_is_read s packets (first, others, all, spelled, says) =
    let items : List HeldItem = flat_map items_of (first ∷ others) in
    let goes = sections_go (first ∷ others) all (with_piece new_progress s) [] tt
    (spelled ∙ sym (append-nil (octets_of items))) in
    (items, goes.0, goes.1, goes.2, sym says)

pub joins : (begun between end : Progress) (items more : List HeldItem) → ItemsLead begun items between →
    ItemsLead between more end → ItemsLead begun (items ++ more) end × (packets_of begun.packets (items ++ more) ≡
    packets_of begun.packets items ++ packets_of between.packets more)
joins begun between end items more first then =
    (leads_join begun between end items more first then, packets_join begun between items more first)
