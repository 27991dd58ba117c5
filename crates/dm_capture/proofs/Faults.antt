-- No item stands where a fault does.
use Rattle.std.proofs.Common.{◌≡◌, ◌≤◌, ◌<◌, ◌⊎◌, inl, inr, ℕ, ◌-◌, ◌%◌, None, Some, List, ◌++◌, length, take, drop, slice_get, refl, sym, ◌∙◌, ap, subst, arith}
use Rattle.std.proofs.lemmas.List.{take_at}
use Rattle.dm_capture.specs.declared.order.Order.{Order}
use Rattle.dm_capture.specs.declared.order.Order.TheVariants.{Big, Little}
use Rattle.dm_capture.specs.declared.time.Resolution.{Resolution}
use Rattle.dm_capture.specs.declared.interface.Interface.{Interface}
use Rattle.dm_capture.specs.declared.pcap.PcapForm.{PcapForm}
use Rattle.dm_capture.specs.declared.packet.Record.{Record}
use Rattle.dm_capture.specs.declared.front_item.Layout.{Layout}
use Rattle.dm_capture.specs.declared.front_item.Layout.TheVariants.{Start, Pcap, Pcapng}
use Rattle.dm_capture.specs.declared.front_item.Holds.{Holds}
use Rattle.dm_capture.specs.declared.front_item.Holds.TheVariants.{Form, Section, Description, PacketRecord, Other}
use Rattle.dm_capture.specs.declared.fault.FaultKind.{FaultKind}
use Rattle.dm_capture.specs.declared.fault.FaultKind.TheVariants.{NoCapture, OtherVersion, WrongLength, RecordTooLong, LengthsDiffer, UnknownInterface, TooManyInterfaces, CutRecord, OutOfMemory}
use Rattle.dm_capture.specs.Numbers.{ordered_number}
use Rattle.dm_capture.specs.Blocks.{block_type, block_size, IsBlock, HasLengthFault}
use Rattle.dm_capture.specs.Interfaces.{HasInterfaceFault, IsInterface}
use Rattle.dm_capture.specs.Packets.{interface_number, IsTimedPacket, IsTimedBlock, HasTimedFault, HasCapturedFault, IsSimplePacket, IsSimpleBlock, HasSimpleFault, HasSimpleLengthFault}
use Rattle.dm_capture.specs.Pcap.{magic_of, magic_by, IsForm, HasHeaderFault, HasRecordFault}
use Rattle.dm_capture.specs.Sections.{section_order, IsSection, HasSectionFault, HasSectionContentFault}
use Rattle.dm_capture.specs.Contents.{BlockHolds, HasContentFault, IsBlockItem, HasBlockFault, HasSectionItemFault}
use Rattle.dm_capture.specs.Items.{IsItem, HasFrontFault}
use Rattle.dm_capture.proofs.One.{number_behind, same_some, first_item, in_section, standing, IsFirst, InSection, IsStanding, described_packet, other_timed, not_timed, magic_pair}
use Rattle.dm_capture.proofs.One.IsFirst.{first_form, first_section}
use Rattle.dm_capture.proofs.One.InSection.{a_section, a_block}
use Rattle.dm_capture.proofs.One.IsStanding.{a_record}
use Rattle.dm_capture.proofs.Parts.{kind_behind, order_behind}

pub none_some : {X : Type 0} (x : X) → None ≡ Some x → ⊥
none_some x e = cc

size_behind : (order : Order) (s x : List ℕ) → IsBlock order s → block_size order (s ++ x) ≡ length s
size_behind order s x is = number_behind order 4 4 s x (omega (arith, is.fits.least)) ∙ is.size

front_behind : (order : Order) (s x : List ℕ) → IsBlock order s → take (block_size order (s ++ x)) (s ++ x) ≡ s
front_behind order s x is = ap (λ n. take n (s ++ x)) (size_behind order s x is) ∙ take_at s x (length s) refl

again_behind : (order : Order) (s x : List ℕ) → IsBlock order s →
    ordered_number order 4 (drop (block_size order (s ++ x) - 4) (s ++ x)) ≡ block_size order (s ++ x)
again_behind order s x is =
    let P : ℕ → Type 0 = λ n. ordered_number order 4 (drop (n - 4) (s ++ x)) ≡ n in
    let at_length : P (length s) =
    number_behind order 4 (length s - 4) s x (omega (arith, is.fits.least)) ∙ is.again in
    subst P (sym (size_behind order s x is)) at_length

pub length_fault : (order : Order) (s x : List ℕ) (fault : FaultKind) → IsBlock order s →
    HasLengthFault order (s ++ x) fault → ⊥
length_fault order s x NoCapture is h = h
length_fault order s x OtherVersion is h = h
length_fault order s x WrongLength is (has, inl low) = omega (arith, size_behind order s x is, low, is.fits.least)
length_fault order s x WrongLength is (has, inr odd) =
    odd (ap (λ n. n % 4) (size_behind order s x is) ∙ is.fits.aligned)
length_fault order s x RecordTooLong is (has, low, four, above) =
    omega (arith, size_behind order s x is, above, is.fits.most)
length_fault order s x LengthsDiffer is (has, within, fits, other) = other (again_behind order s x is)
length_fault order s x UnknownInterface is h = h
length_fault order s x TooManyInterfaces is h = h
length_fault order s x CutRecord is h = h
length_fault order s x OutOfMemory is h = h

-- a section's header
section_content : (order : Order) (s : List ℕ) (fault : FaultKind) → IsSection order s →
    HasSectionContentFault order s fault → ⊥
section_content order s NoCapture is h = h
section_content order s OtherVersion is (has, other) = other is.version
section_content order s WrongLength is h = omega (arith, h, is.least)
section_content order s RecordTooLong is h = h
section_content order s LengthsDiffer is h = h
section_content order s UnknownInterface is h = h
section_content order s TooManyInterfaces is h = h
section_content order s CutRecord is h = h
section_content order s OutOfMemory is h = h

abbrev pub OrderedFault : List ℕ → FaultKind → Order → Type 0
OrderedFault s fault order =
    HasLengthFault order s fault ⊎
    (IsBlock order (take (block_size order s) s) ×
    HasSectionContentFault order (take (block_size order s) s) fault)

ordered_fault : (order : Order) (s x : List ℕ) (fault : FaultKind) → IsSection order s →
    OrderedFault (s ++ x) fault order → ⊥
ordered_fault order s x fault is (inl h) = length_fault order s x fault is.block h
ordered_fault order s x fault is (inr (block, h)) =
    section_content order s fault is
    (subst (λ (l : List ℕ). HasSectionContentFault order l fault) (front_behind order s x is.block) h)

other_order : (order : Order) (s x : List ℕ) (fault : FaultKind) → IsSection order s →
    ((12 ≤ length (s ++ x)) × (other : Order) × (section_order (s ++ x) ≡ Some other) ×
    OrderedFault (s ++ x) fault other) → ⊥
other_order order s x fault is (has, other, ordered, h) =
    let same : other ≡ order =
    same_some other order (sym ordered ∙ order_behind s x (omega (arith, is.least)) ∙ is.ordered) in
    ordered_fault order s x fault is (subst (OrderedFault (s ++ x) fault) same h)

section_or_fault : (order : Order) (s x : List ℕ) (fault : FaultKind) → IsSection order s →
    HasSectionFault (s ++ x) fault → ⊥
section_or_fault order s x NoCapture is (has, none) =
    none_some order (sym none ∙ order_behind s x (omega (arith, is.least)) ∙ is.ordered)
section_or_fault order s x OtherVersion is h = other_order order s x OtherVersion is h
section_or_fault order s x WrongLength is h = other_order order s x WrongLength is h
section_or_fault order s x RecordTooLong is h = other_order order s x RecordTooLong is h
section_or_fault order s x LengthsDiffer is h = other_order order s x LengthsDiffer is h
section_or_fault order s x UnknownInterface is h = other_order order s x UnknownInterface is h
section_or_fault order s x TooManyInterfaces is h = other_order order s x TooManyInterfaces is h
section_or_fault order s x CutRecord is h = other_order order s x CutRecord is h
section_or_fault order s x OutOfMemory is h = other_order order s x OutOfMemory is h

-- an interface's description
interface_or_fault : (order : Order) (interfaces : List Interface) (s : List ℕ) (interface : Interface)
    (fault : FaultKind) → length interfaces < 65536 → IsInterface order s interface →
    HasInterfaceFault interfaces s fault → ⊥
interface_or_fault order interfaces s interface NoCapture few is h = h
interface_or_fault order interfaces s interface OtherVersion few is h = h
interface_or_fault order interfaces s interface WrongLength few is h = omega (arith, h, is.least)
interface_or_fault order interfaces s interface RecordTooLong few is h = h
interface_or_fault order interfaces s interface LengthsDiffer few is h = h
interface_or_fault order interfaces s interface UnknownInterface few is h = h
interface_or_fault order interfaces s interface TooManyInterfaces few is h = omega (arith, few, h.1)
interface_or_fault order interfaces s interface CutRecord few is h = h
interface_or_fault order interfaces s interface OutOfMemory few is h = h

-- an enhanced or obsolete packet block
captured_or_fault : (order : Order) (interface : Interface) (s : List ℕ) (stands : Record) (fault : FaultKind) →
    IsTimedPacket order interface s stands → HasCapturedFault order s fault → ⊥
captured_or_fault order interface s stands NoCapture is h = h
captured_or_fault order interface s stands OtherVersion is h = h
captured_or_fault order interface s stands WrongLength is h = omega (arith, h, is.within)
captured_or_fault order interface s stands RecordTooLong is (has, above) = omega (arith, above, is.most)
captured_or_fault order interface s stands LengthsDiffer is h = h
captured_or_fault order interface s stands UnknownInterface is h = h
captured_or_fault order interface s stands TooManyInterfaces is h = h
captured_or_fault order interface s stands CutRecord is h = h
captured_or_fault order interface s stands OutOfMemory is h = h

timed_at : (order : Order) (interfaces : List Interface) (s : List ℕ) (stands : Record) (fault : FaultKind) →
    IsTimedBlock order interfaces s stands →
    ((fault ≡ WrongLength) × (length s < 32)) ⊎
    ((interface : Interface) × (slice_get interfaces (interface_number order s) ≡ Some interface) ×
    (32 ≤ length s) × HasCapturedFault order s fault) → ⊥
timed_at order interfaces s stands fault (i, at, is) (inl (e, short)) = omega (arith, short, is.within)
timed_at order interfaces s stands fault (i, at, is) (inr (j, there, has, h)) =
    captured_or_fault order i s stands fault is h

timed_or_fault : (order : Order) (interfaces : List Interface) (s : List ℕ) (stands : Record) (fault : FaultKind) →
    IsTimedBlock order interfaces s stands → HasTimedFault order interfaces s fault → ⊥
timed_or_fault order interfaces s stands NoCapture is h = timed_at order interfaces s stands NoCapture is h
timed_or_fault order interfaces s stands OtherVersion is h = timed_at order interfaces s stands OtherVersion is h
timed_or_fault order interfaces s stands WrongLength is h = timed_at order interfaces s stands WrongLength is h
timed_or_fault order interfaces s stands RecordTooLong is h = timed_at order interfaces s stands RecordTooLong is h
timed_or_fault order interfaces s stands LengthsDiffer is h = timed_at order interfaces s stands LengthsDiffer is h
timed_or_fault order interfaces s stands UnknownInterface (i, at, is) (has, none) = none_some i (sym none ∙ at)
timed_or_fault order interfaces s stands TooManyInterfaces is h = timed_at order interfaces s stands TooManyInterfaces is h
timed_or_fault order interfaces s stands CutRecord is h = timed_at order interfaces s stands CutRecord is h
timed_or_fault order interfaces s stands OutOfMemory is h = timed_at order interfaces s stands OutOfMemory is h

-- a simple packet block
simple_length : (order : Order) (interface : Interface) (s : List ℕ) (stands : Record) (fault : FaultKind) →
    IsSimplePacket order interface s stands → HasSimpleLengthFault order interface s fault → ⊥
simple_length order interface s stands NoCapture is h = h
simple_length order interface s stands OtherVersion is h = h
simple_length order interface s stands WrongLength is h = omega (arith, h, is.within)
simple_length order interface s stands RecordTooLong is (has, above) = omega (arith, above, is.most)
simple_length order interface s stands LengthsDiffer is h = h
simple_length order interface s stands UnknownInterface is h = h
simple_length order interface s stands TooManyInterfaces is h = h
simple_length order interface s stands CutRecord is h = h
simple_length order interface s stands OutOfMemory is h = h

simple_at : (order : Order) (interfaces : List Interface) (s : List ℕ) (stands : Record) (fault : FaultKind) →
    IsSimpleBlock order interfaces s stands →
    ((fault ≡ WrongLength) × (length s < 16)) ⊎
    ((interface : Interface) × (slice_get interfaces 0 ≡ Some interface) × (16 ≤ length s) ×
    HasSimpleLengthFault order interface s fault) → ⊥
simple_at order interfaces s stands fault (i, at, is) (inl (e, short)) = omega (arith, short, is.within)
simple_at order interfaces s stands fault (i, at, is) (inr (j, there, has, h)) =
    let same : j ≡ i = same_some j i (sym there ∙ at) in
    simple_length order i s stands fault is
    (subst (λ (k : Interface). HasSimpleLengthFault order k s fault) same h)

simple_or_fault : (order : Order) (interfaces : List Interface) (s : List ℕ) (stands : Record) (fault : FaultKind) →
    IsSimpleBlock order interfaces s stands → HasSimpleFault order interfaces s fault → ⊥
simple_or_fault order interfaces s stands NoCapture is h = simple_at order interfaces s stands NoCapture is h
simple_or_fault order interfaces s stands OtherVersion is h = simple_at order interfaces s stands OtherVersion is h
simple_or_fault order interfaces s stands WrongLength is h = simple_at order interfaces s stands WrongLength is h
simple_or_fault order interfaces s stands RecordTooLong is h = simple_at order interfaces s stands RecordTooLong is h
simple_or_fault order interfaces s stands LengthsDiffer is h = simple_at order interfaces s stands LengthsDiffer is h
simple_or_fault order interfaces s stands UnknownInterface (i, at, is) (has, none) = none_some i (sym none ∙ at)
simple_or_fault order interfaces s stands TooManyInterfaces is h = simple_at order interfaces s stands TooManyInterfaces is h
simple_or_fault order interfaces s stands CutRecord is h = simple_at order interfaces s stands CutRecord is h
simple_or_fault order interfaces s stands OutOfMemory is h = simple_at order interfaces s stands OutOfMemory is h

-- what a block says
said_or_fault : (order : Order) (interfaces : List Interface) (s : List ℕ) (holds : Holds) (fault : FaultKind) →
    BlockHolds order interfaces s holds → HasContentFault order interfaces s fault → ⊥
said_or_fault order interfaces s (Form f) fault h k = absurd h
said_or_fault order interfaces s (Section o) fault h k = absurd h
said_or_fault order interfaces s (Description i) fault h (inl (one, k)) =
    interface_or_fault order interfaces s i fault h.1 h.2 k
said_or_fault order interfaces s (Description i) fault h (inr (inl (timed, k))) =
    not_timed (block_type order s) 1 timed h.0 (λ e. omega (arith, e)) (λ e. omega (arith, e))
said_or_fault order interfaces s (Description i) fault h (inr (inr (three, k))) = omega (arith, three, h.0)
said_or_fault order interfaces s (PacketRecord r) fault h (inl (one, k)) = described_packet order interfaces s r one h
said_or_fault order interfaces s (PacketRecord r) fault (inl (timed, is)) (inr (inl (type, k))) =
    timed_or_fault order interfaces s r fault is k
said_or_fault order interfaces s (PacketRecord r) fault (inl (timed, is)) (inr (inr (three, k))) =
    not_timed (block_type order s) 3 timed three (λ e. omega (arith, e)) (λ e. omega (arith, e))
said_or_fault order interfaces s (PacketRecord r) fault (inr (three, is)) (inr (inl (timed, k))) =
    not_timed (block_type order s) 3 timed three (λ e. omega (arith, e)) (λ e. omega (arith, e))
said_or_fault order interfaces s (PacketRecord r) fault (inr (three, is)) (inr (inr (type, k))) =
    simple_or_fault order interfaces s r fault is k
said_or_fault order interfaces s Other fault h (inl (one, k)) = h.no_interface one
said_or_fault order interfaces s Other fault h (inr (inl (timed, k))) = other_timed (block_type order s) h timed
said_or_fault order interfaces s Other fault h (inr (inr (three, k))) = h.no_simple_packet three

block_or_fault : (order : Order) (interfaces : List Interface) (s x : List ℕ) (holds : Holds) (fault : FaultKind) →
    IsBlockItem order interfaces s holds → HasBlockFault order interfaces (s ++ x) fault → ⊥
block_or_fault order interfaces s x holds fault is (inl h) = length_fault order s x fault is.block h
block_or_fault order interfaces s x holds fault is (inr (block, h)) =
    said_or_fault order interfaces s holds fault is.says
    (subst (λ (l : List ℕ). HasContentFault order interfaces l fault) (front_behind order s x is.block) h)

in_section_or_fault : (order : Order) (interfaces : List Interface) (s x : List ℕ) (holds : Holds)
    (fault : FaultKind) → InSection order interfaces s holds → HasSectionItemFault order interfaces (s ++ x) fault → ⊥
in_section_or_fault order interfaces s x holds fault (a_section next at is) (inl (has, kind, h)) =
    section_or_fault next s x fault is h
in_section_or_fault order interfaces s x holds fault (a_section next at is) (inr (has, kind, h)) =
    kind (kind_behind s x (omega (arith, is.least)) ∙ is.kind)
in_section_or_fault order interfaces s x holds fault (a_block is) (inl (has, kind, h)) =
    is.no_section (sym (kind_behind s x (omega (arith, is.block.fits.least))) ∙ kind)
in_section_or_fault order interfaces s x holds fault (a_block is) (inr (has, kind, h)) =
    block_or_fault order interfaces s x holds fault is h

-- a pcap file's header
magic_behind : (s x : List ℕ) → 4 ≤ length s → magic_of (s ++ x) ≡ magic_of s
magic_behind s x has =
    ap (λ n. magic_by n (ordered_number Little 4 (s ++ x))) (number_behind Big 4 0 s x (omega arith)) ∙
    ap (λ n. magic_by (ordered_number Big 4 s) n) (number_behind Little 4 0 s x (omega arith))

header_or_fault : (form : PcapForm) (s x : List ℕ) (fault : FaultKind) → IsForm s form →
    HasHeaderFault (s ++ x) fault → ⊥
header_or_fault form s x NoCapture is h = h
header_or_fault form s x OtherVersion is (has, order, resolution, magic, other) =
    let both = same_some {X = Order × Resolution} (magic_pair order resolution) (magic_pair form.order form.resolution)
    (sym magic ∙ magic_behind s x (omega (arith, is.size)) ∙ is.magic) in
    let same : order ≡ form.order = ap (λ (p : Order × Resolution). p.0) both in
    other (number_behind order 2 4 s x (omega (arith, is.size)) ∙ ap (λ o. ordered_number o 2 (drop 4 s)) same ∙ is.version)
header_or_fault form s x WrongLength is h = h
header_or_fault form s x RecordTooLong is h = h
header_or_fault form s x LengthsDiffer is h = h
header_or_fault form s x UnknownInterface is h = h
header_or_fault form s x TooManyInterfaces is h = h
header_or_fault form s x CutRecord is h = h
header_or_fault form s x OutOfMemory is h = h

first_or_fault : (interfaces : List Interface) (s x : List ℕ) (holds : Holds) (fault : FaultKind) → IsFirst s holds →
    HasFrontFault Start interfaces (s ++ x) fault → ⊥
first_or_fault interfaces s x holds fault (first_form form at is) (inl (has, kind, h)) =
    is.no_section (sym (kind_behind s x (omega (arith, is.size))) ∙ kind)
first_or_fault interfaces s x holds fault (first_form form at is) (inr (has, kind, inl (none, e))) =
    none_some (magic_pair form.order form.resolution)
    (sym none ∙ magic_behind s x (omega (arith, is.size)) ∙ is.magic)
first_or_fault interfaces s x holds fault (first_form form at is) (inr (has, kind, inr h)) =
    header_or_fault form s x fault is h
first_or_fault interfaces s x holds fault (first_section order at is) (inl (has, kind, h)) =
    section_or_fault order s x fault is h
first_or_fault interfaces s x holds fault (first_section order at is) (inr (has, kind, h)) =
    kind (kind_behind s x (omega (arith, is.least)) ∙ is.kind)

-- a record
record_or_fault : (form : PcapForm) (s x : List ℕ) (holds : Holds) (fault : FaultKind) → IsStanding form s holds →
    HasRecordFault form (s ++ x) fault → ⊥
record_or_fault form s x holds NoCapture is h = h
record_or_fault form s x holds OtherVersion is h = h
record_or_fault form s x holds WrongLength is h = h
record_or_fault form s x holds RecordTooLong (a_record stands at is) (has, above) =
    omega (arith, number_behind form.order 4 8 s x (omega (arith, is.size)), above, is.most)
record_or_fault form s x holds LengthsDiffer is h = h
record_or_fault form s x holds UnknownInterface is h = h
record_or_fault form s x holds TooManyInterfaces is h = h
record_or_fault form s x holds CutRecord is h = h
record_or_fault form s x holds OutOfMemory is h = h

pub item_or_fault : (layout : Layout) (interfaces : List Interface) (s x : List ℕ) (holds : Holds)
    (fault : FaultKind) → IsItem layout interfaces s holds → HasFrontFault layout interfaces (s ++ x) fault → ⊥
item_or_fault Start interfaces s x holds fault h k =
    first_or_fault interfaces s x holds fault (first_item s holds h) k
item_or_fault (Pcap form) interfaces s x holds fault h k =
    record_or_fault form s x holds fault (standing form s holds h) k
item_or_fault (Pcapng order) interfaces s x holds fault h k =
    in_section_or_fault order interfaces s x holds fault (in_section order interfaces s holds h) k
