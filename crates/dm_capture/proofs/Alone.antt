-- One fault at most stands at a front, and none where a part does.
use Rattle.std.proofs.Common.{◌≡◌, ◌≢◌, ◌≤◌, ◌<◌, ◌⊎◌, inl, inr, ℕ, ◌+◌, ◌%◌, None, Some, List, length, take, drop, slice_get, refl, sym, ◌∙◌, ap, subst, arith}
use Rattle.std.proofs.lemmas.List.{take-append-drop, length-take, take_all}
use Rattle.dm_capture.specs.declared.order.Order.{Order}
use Rattle.dm_capture.specs.declared.time.Resolution.{Resolution}
use Rattle.dm_capture.specs.declared.interface.Interface.{Interface}
use Rattle.dm_capture.specs.declared.pcap.PcapForm.{PcapForm}
use Rattle.dm_capture.specs.declared.front_item.Layout.{Layout}
use Rattle.dm_capture.specs.declared.front_item.Layout.TheVariants.{Start, Pcap, Pcapng}
use Rattle.dm_capture.specs.declared.fault.FaultKind.{FaultKind}
use Rattle.dm_capture.specs.declared.fault.FaultKind.TheVariants.{NoCapture, OtherVersion, WrongLength, RecordTooLong, LengthsDiffer, UnknownInterface, TooManyInterfaces, CutRecord, OutOfMemory}
use Rattle.dm_capture.specs.Numbers.{ordered_number}
use Rattle.dm_capture.specs.Blocks.{block_type, block_size, IsBlock, IsBlockLength, IsBlockPart, HasLengthFault}
use Rattle.dm_capture.specs.Interfaces.{HasInterfaceFault}
use Rattle.dm_capture.specs.Packets.{interface_number, captured_simple, HasTimedFault, HasCapturedFault, HasSimpleFault, HasSimpleLengthFault}
use Rattle.dm_capture.specs.Pcap.{magic_of, HasHeaderFault, IsRecordPart, HasRecordFault}
use Rattle.dm_capture.specs.Sections.{section_order, IsSectionPart, HasSectionFault, HasSectionContentFault}
use Rattle.dm_capture.specs.Contents.{IsTimedType, HasContentFault, HasBlockFault, IsSectionItemPart, HasSectionItemFault}
use Rattle.dm_capture.specs.Items.{IsPart, HasFrontFault}
use Rattle.dm_capture.proofs.One.{same_some, not_timed}
use Rattle.dm_capture.proofs.Faults.{none_some, length_fault, OrderedFault}

-- a block's length
data LengthIs (order : Order) (s : List ℕ) (fault : FaultKind) : Type 0 where
  low_length : fault ≡ WrongLength → block_size order s < 12 → LengthIs order s fault
  odd_length : fault ≡ WrongLength → block_size order s % 4 ≢ 0 → LengthIs order s fault
  long_length : fault ≡ RecordTooLong → 12 ≤ block_size order s → block_size order s % 4 ≡ 0 →
      16777216 < block_size order s → LengthIs order s fault
  other_length : fault ≡ LengthsDiffer → block_size order s ≤ length s → IsBlockLength (block_size order s) →
      LengthIs order s fault

length_is : (order : Order) (s : List ℕ) (fault : FaultKind) → HasLengthFault order s fault → LengthIs order s fault
length_is order s NoCapture h = absurd h
length_is order s OtherVersion h = absurd h
length_is order s WrongLength (has, inl h) = low_length refl h
length_is order s WrongLength (has, inr h) = odd_length refl h
length_is order s RecordTooLong (has, least, four, most) = long_length refl least four most
length_is order s LengthsDiffer (has, within, fits, other) = other_length refl within fits
length_is order s UnknownInterface h = absurd h
length_is order s TooManyInterfaces h = absurd h
length_is order s CutRecord h = absurd h
length_is order s OutOfMemory h = absurd h

one_length : (order : Order) (s : List ℕ) (f g : FaultKind) → LengthIs order s f → LengthIs order s g → f ≡ g
one_length order s f g (low_length e h) (low_length d k) = e ∙ sym d
one_length order s f g (low_length e h) (odd_length d k) = e ∙ sym d
one_length order s f g (low_length e h) (long_length d least four most) = absurd (omega arith)
one_length order s f g (low_length e h) (other_length d within fits) = absurd (omega (arith, fits.least))
one_length order s f g (odd_length e h) (low_length d k) = e ∙ sym d
one_length order s f g (odd_length e h) (odd_length d k) = e ∙ sym d
one_length order s f g (odd_length e h) (long_length d least four most) = absurd (h four)
one_length order s f g (odd_length e h) (other_length d within fits) = absurd (h fits.aligned)
one_length order s f g (long_length e least four most) (low_length d k) = absurd (omega arith)
one_length order s f g (long_length e least four most) (odd_length d k) = absurd (k four)
one_length order s f g (long_length e least four most) (long_length d lowest even up) = e ∙ sym d
one_length order s f g (long_length e least four most) (other_length d within fits) = absurd (omega (arith, fits.most))
one_length order s f g (other_length e within fits) (low_length d k) = absurd (omega (arith, fits.least))
one_length order s f g (other_length e within fits) (odd_length d k) = absurd (k fits.aligned)
one_length order s f g (other_length e within fits) (long_length d least four most) = absurd (omega (arith, fits.most))
one_length order s f g (other_length e within fits) (other_length d k also) = e ∙ sym d

-- a whole block has no fault of its length
whole_or_length : (order : Order) (s : List ℕ) (n : ℕ) (fault : FaultKind) → IsBlock order (take n s) →
    HasLengthFault order s fault → ⊥
whole_or_length order s n fault is h =
    let P : List ℕ → Type 0 = λ l. HasLengthFault order l fault in
    length_fault order (take n s) (drop n s) fault is (subst P (sym (take-append-drop n s)) h)

-- a section's header
data SectionContentIs (s : List ℕ) (fault : FaultKind) : Type 0 where
  short_section : fault ≡ WrongLength → length s < 28 → SectionContentIs s fault
  other_version : fault ≡ OtherVersion → 28 ≤ length s → SectionContentIs s fault

section_content_is : (order : Order) (s : List ℕ) (fault : FaultKind) → HasSectionContentFault order s fault →
    SectionContentIs s fault
section_content_is order s NoCapture h = absurd h
section_content_is order s OtherVersion h = other_version refl h.0
section_content_is order s WrongLength h = short_section refl h
section_content_is order s RecordTooLong h = absurd h
section_content_is order s LengthsDiffer h = absurd h
section_content_is order s UnknownInterface h = absurd h
section_content_is order s TooManyInterfaces h = absurd h
section_content_is order s CutRecord h = absurd h
section_content_is order s OutOfMemory h = absurd h

one_section_content : (s : List ℕ) (f g : FaultKind) → SectionContentIs s f → SectionContentIs s g → f ≡ g
one_section_content s f g (short_section e h) (short_section d k) = e ∙ sym d
one_section_content s f g (short_section e h) (other_version d k) = absurd (omega arith)
one_section_content s f g (other_version e h) (short_section d k) = absurd (omega arith)
one_section_content s f g (other_version e h) (other_version d k) = e ∙ sym d

one_ordered : (order : Order) (s : List ℕ) (f g : FaultKind) → OrderedFault s f order → OrderedFault s g order → f ≡ g
one_ordered order s f g (inl h) (inl k) = one_length order s f g (length_is order s f h) (length_is order s g k)
one_ordered order s f g (inl h) (inr (block, k)) = absurd (whole_or_length order s (block_size order s) f block h)
one_ordered order s f g (inr (block, h)) (inl k) = absurd (whole_or_length order s (block_size order s) g block k)
one_ordered order s f g (inr (block, h)) (inr (same, k)) =
    one_section_content (take (block_size order s) s) f g
    (section_content_is order _ f h) (section_content_is order _ g k)

data SectionIs (s : List ℕ) (fault : FaultKind) : Type 0 where
  no_order : fault ≡ NoCapture → section_order s ≡ None → SectionIs s fault
  in_order : (order : Order) → section_order s ≡ Some order → OrderedFault s fault order → SectionIs s fault

section_is : (s : List ℕ) (fault : FaultKind) → HasSectionFault s fault → SectionIs s fault
section_is s NoCapture (has, none) = no_order refl none
section_is s OtherVersion (has, order, ordered, h) = in_order order ordered h
section_is s WrongLength (has, order, ordered, h) = in_order order ordered h
section_is s RecordTooLong (has, order, ordered, h) = in_order order ordered h
section_is s LengthsDiffer (has, order, ordered, h) = in_order order ordered h
section_is s UnknownInterface (has, order, ordered, h) = in_order order ordered h
section_is s TooManyInterfaces (has, order, ordered, h) = in_order order ordered h
section_is s CutRecord (has, order, ordered, h) = in_order order ordered h
section_is s OutOfMemory (has, order, ordered, h) = in_order order ordered h

one_section_fault : (s : List ℕ) (f g : FaultKind) → SectionIs s f → SectionIs s g → f ≡ g
one_section_fault s f g (no_order e h) (no_order d k) = e ∙ sym d
one_section_fault s f g (no_order e h) (in_order order at k) = absurd (none_some order (sym h ∙ at))
one_section_fault s f g (in_order order at h) (no_order d k) = absurd (none_some order (sym k ∙ at))
one_section_fault s f g (in_order order at h) (in_order other there k) =
    let same : other ≡ order = same_some other order (sym there ∙ at) in
    one_ordered order s f g h (subst (λ (o : Order). OrderedFault s g o) same k)

-- a pcap file's header and its records
header_is : (s : List ℕ) (fault : FaultKind) → HasHeaderFault s fault →
    (fault ≡ OtherVersion) × (pair : Order × Resolution) × (magic_of s ≡ Some pair) × (24 ≤ length s)
header_is s NoCapture h = absurd h
header_is s OtherVersion (has, order, resolution, magic, other) = (refl, (order, resolution), magic, has)
header_is s WrongLength h = absurd h
header_is s RecordTooLong h = absurd h
header_is s LengthsDiffer h = absurd h
header_is s UnknownInterface h = absurd h
header_is s TooManyInterfaces h = absurd h
header_is s CutRecord h = absurd h
header_is s OutOfMemory h = absurd h

record_is : (form : PcapForm) (s : List ℕ) (fault : FaultKind) → HasRecordFault form s fault →
    (fault ≡ RecordTooLong) × (16 ≤ length s) × (262144 < ordered_number form.order 4 (drop 8 s))
record_is form s NoCapture h = absurd h
record_is form s OtherVersion h = absurd h
record_is form s WrongLength h = absurd h
record_is form s RecordTooLong (has, most) = (refl, has, most)
record_is form s LengthsDiffer h = absurd h
record_is form s UnknownInterface h = absurd h
record_is form s TooManyInterfaces h = absurd h
record_is form s CutRecord h = absurd h
record_is form s OutOfMemory h = absurd h

-- what a block says
data TimedIs (order : Order) (interfaces : List Interface) (s : List ℕ) (fault : FaultKind) : Type 0 where
  short_timed : fault ≡ WrongLength → length s < 32 → TimedIs order interfaces s fault
  no_timed : fault ≡ UnknownInterface → 32 ≤ length s → slice_get interfaces (interface_number order s) ≡ None →
      TimedIs order interfaces s fault
  past_timed : fault ≡ WrongLength → 32 ≤ length s → (interface : Interface) →
      slice_get interfaces (interface_number order s) ≡ Some interface →
      length s < 32 + ordered_number order 4 (drop 20 s) → TimedIs order interfaces s fault
  long_timed : fault ≡ RecordTooLong → 32 ≤ length s → (interface : Interface) →
      slice_get interfaces (interface_number order s) ≡ Some interface →
      32 + ordered_number order 4 (drop 20 s) ≤ length s → TimedIs order interfaces s fault

captured_is : (order : Order) (interfaces : List Interface) (s : List ℕ)
    (interface : Interface) (fault : FaultKind) →
    slice_get interfaces (interface_number order s) ≡ Some interface → 32 ≤ length s →
    HasCapturedFault order s fault → TimedIs order interfaces s fault
captured_is order interfaces s i NoCapture at has h = absurd h
captured_is order interfaces s i OtherVersion at has h = absurd h
captured_is order interfaces s i WrongLength at has h = past_timed refl has i at h
captured_is order interfaces s i RecordTooLong at has h = long_timed refl has i at h.0
captured_is order interfaces s i LengthsDiffer at has h = absurd h
captured_is order interfaces s i UnknownInterface at has h = absurd h
captured_is order interfaces s i TooManyInterfaces at has h = absurd h
captured_is order interfaces s i CutRecord at has h = absurd h
captured_is order interfaces s i OutOfMemory at has h = absurd h

timed_by : (order : Order) (interfaces : List Interface) (s : List ℕ) (fault : FaultKind) →
    ((fault ≡ WrongLength) × (length s < 32)) ⊎
    ((interface : Interface) × (slice_get interfaces (interface_number order s) ≡ Some interface) ×
    (32 ≤ length s) × HasCapturedFault order s fault) → TimedIs order interfaces s fault
timed_by order interfaces s fault (inl (e, h)) = short_timed e h
timed_by order interfaces s fault (inr (i, at, has, h)) = captured_is order interfaces s i fault at has h

timed_is : (order : Order) (interfaces : List Interface) (s : List ℕ) (fault : FaultKind) →
    HasTimedFault order interfaces s fault → TimedIs order interfaces s fault
timed_is order interfaces s NoCapture h = timed_by order interfaces s NoCapture h
timed_is order interfaces s OtherVersion h = timed_by order interfaces s OtherVersion h
timed_is order interfaces s WrongLength h = timed_by order interfaces s WrongLength h
timed_is order interfaces s RecordTooLong h = timed_by order interfaces s RecordTooLong h
timed_is order interfaces s LengthsDiffer h = timed_by order interfaces s LengthsDiffer h
timed_is order interfaces s UnknownInterface h = no_timed refl h.0 h.1
timed_is order interfaces s TooManyInterfaces h = timed_by order interfaces s TooManyInterfaces h
timed_is order interfaces s CutRecord h = timed_by order interfaces s CutRecord h
timed_is order interfaces s OutOfMemory h = timed_by order interfaces s OutOfMemory h

one_timed : (order : Order) (interfaces : List Interface) (s : List ℕ) (f g : FaultKind) →
    TimedIs order interfaces s f → TimedIs order interfaces s g → f ≡ g
one_timed order interfaces s f g (short_timed e h) (short_timed d k) = e ∙ sym d
one_timed order interfaces s f g (short_timed e h) (no_timed d has k) = absurd (omega arith)
one_timed order interfaces s f g (short_timed e h) (past_timed d has i at k) = e ∙ sym d
one_timed order interfaces s f g (short_timed e h) (long_timed d has i at k) = absurd (omega arith)
one_timed order interfaces s f g (no_timed e has h) (short_timed d k) = absurd (omega arith)
one_timed order interfaces s f g (no_timed e has h) (no_timed d also k) = e ∙ sym d
one_timed order interfaces s f g (no_timed e has h) (past_timed d also i at k) = absurd (none_some i (sym h ∙ at))
one_timed order interfaces s f g (no_timed e has h) (long_timed d also i at k) = absurd (none_some i (sym h ∙ at))
one_timed order interfaces s f g (past_timed e has i at h) (short_timed d k) = e ∙ sym d
one_timed order interfaces s f g (past_timed e has i at h) (no_timed d also k) = absurd (none_some i (sym k ∙ at))
one_timed order interfaces s f g (past_timed e has i at h) (past_timed d also j there k) = e ∙ sym d
one_timed order interfaces s f g (past_timed e has i at h) (long_timed d also j there k) = absurd (omega arith)
one_timed order interfaces s f g (long_timed e has i at h) (short_timed d k) = absurd (omega arith)
one_timed order interfaces s f g (long_timed e has i at h) (no_timed d also k) = absurd (none_some i (sym k ∙ at))
one_timed order interfaces s f g (long_timed e has i at h) (past_timed d also j there k) = absurd (omega arith)
one_timed order interfaces s f g (long_timed e has i at h) (long_timed d also j there k) = e ∙ sym d

data SimpleIs (order : Order) (interfaces : List Interface) (s : List ℕ) (fault : FaultKind) : Type 0 where
  short_simple : fault ≡ WrongLength → length s < 16 → SimpleIs order interfaces s fault
  no_simple : fault ≡ UnknownInterface → 16 ≤ length s → slice_get interfaces 0 ≡ None →
      SimpleIs order interfaces s fault
  past_simple : fault ≡ WrongLength → 16 ≤ length s → (interface : Interface) →
      slice_get interfaces 0 ≡ Some interface → length s < 16 + captured_simple order interface s →
      SimpleIs order interfaces s fault
  long_simple : fault ≡ RecordTooLong → 16 ≤ length s → (interface : Interface) →
      slice_get interfaces 0 ≡ Some interface → 16 + captured_simple order interface s ≤ length s →
      SimpleIs order interfaces s fault

simple_length_is : (order : Order) (interfaces : List Interface) (s : List ℕ)
    (interface : Interface) (fault : FaultKind) →
    slice_get interfaces 0 ≡ Some interface → 16 ≤ length s →
    HasSimpleLengthFault order interface s fault → SimpleIs order interfaces s fault
simple_length_is order interfaces s i NoCapture at has h = absurd h
simple_length_is order interfaces s i OtherVersion at has h = absurd h
simple_length_is order interfaces s i WrongLength at has h = past_simple refl has i at h
simple_length_is order interfaces s i RecordTooLong at has h = long_simple refl has i at h.0
simple_length_is order interfaces s i LengthsDiffer at has h = absurd h
simple_length_is order interfaces s i UnknownInterface at has h = absurd h
simple_length_is order interfaces s i TooManyInterfaces at has h = absurd h
simple_length_is order interfaces s i CutRecord at has h = absurd h
simple_length_is order interfaces s i OutOfMemory at has h = absurd h

simple_by : (order : Order) (interfaces : List Interface) (s : List ℕ) (fault : FaultKind) →
    ((fault ≡ WrongLength) × (length s < 16)) ⊎
    ((interface : Interface) × (slice_get interfaces 0 ≡ Some interface) × (16 ≤ length s) ×
    HasSimpleLengthFault order interface s fault) → SimpleIs order interfaces s fault
simple_by order interfaces s fault (inl (e, h)) = short_simple e h
simple_by order interfaces s fault (inr (i, at, has, h)) = simple_length_is order interfaces s i fault at has h

simple_is : (order : Order) (interfaces : List Interface) (s : List ℕ) (fault : FaultKind) →
    HasSimpleFault order interfaces s fault → SimpleIs order interfaces s fault
simple_is order interfaces s NoCapture h = simple_by order interfaces s NoCapture h
simple_is order interfaces s OtherVersion h = simple_by order interfaces s OtherVersion h
simple_is order interfaces s WrongLength h = simple_by order interfaces s WrongLength h
simple_is order interfaces s RecordTooLong h = simple_by order interfaces s RecordTooLong h
simple_is order interfaces s LengthsDiffer h = simple_by order interfaces s LengthsDiffer h
simple_is order interfaces s UnknownInterface h = no_simple refl h.0 h.1
simple_is order interfaces s TooManyInterfaces h = simple_by order interfaces s TooManyInterfaces h
simple_is order interfaces s CutRecord h = simple_by order interfaces s CutRecord h
simple_is order interfaces s OutOfMemory h = simple_by order interfaces s OutOfMemory h

-- one interface, one length
simple_both : (order : Order) (interfaces : List Interface) (s : List ℕ) (i j : Interface) →
    slice_get interfaces 0 ≡ Some i → slice_get interfaces 0 ≡ Some j → length s < 16 + captured_simple order i s →
    16 + captured_simple order j s ≤ length s → ⊥
simple_both order interfaces s i j at there h k =
    let same : captured_simple order i s ≡ captured_simple order j s =
    ap (λ l. captured_simple order l s) (same_some i j (sym at ∙ there)) in
    omega arith

one_simple : (order : Order) (interfaces : List Interface) (s : List ℕ) (f g : FaultKind) →
    SimpleIs order interfaces s f → SimpleIs order interfaces s g → f ≡ g
one_simple order interfaces s f g (short_simple e h) (short_simple d k) = e ∙ sym d
one_simple order interfaces s f g (short_simple e h) (no_simple d has k) = absurd (omega arith)
one_simple order interfaces s f g (short_simple e h) (past_simple d has i at k) = e ∙ sym d
one_simple order interfaces s f g (short_simple e h) (long_simple d has i at k) = absurd (omega arith)
one_simple order interfaces s f g (no_simple e has h) (short_simple d k) = absurd (omega arith)
one_simple order interfaces s f g (no_simple e has h) (no_simple d also k) = e ∙ sym d
one_simple order interfaces s f g (no_simple e has h) (past_simple d also i at k) = absurd (none_some i (sym h ∙ at))
one_simple order interfaces s f g (no_simple e has h) (long_simple d also i at k) = absurd (none_some i (sym h ∙ at))
one_simple order interfaces s f g (past_simple e has i at h) (short_simple d k) = e ∙ sym d
one_simple order interfaces s f g (past_simple e has i at h) (no_simple d also k) = absurd (none_some i (sym k ∙ at))
one_simple order interfaces s f g (past_simple e has i at h) (past_simple d also j there k) = e ∙ sym d
one_simple order interfaces s f g (past_simple e has i at h) (long_simple d also j there k) =
    absurd (simple_both order interfaces s i j at there h k)
one_simple order interfaces s f g (long_simple e has i at h) (short_simple d k) = absurd (omega arith)
one_simple order interfaces s f g (long_simple e has i at h) (no_simple d also k) = absurd (none_some i (sym k ∙ at))
one_simple order interfaces s f g (long_simple e has i at h) (past_simple d also j there k) =
    absurd (simple_both order interfaces s j i there at k h)
one_simple order interfaces s f g (long_simple e has i at h) (long_simple d also j there k) = e ∙ sym d

interface_is : (interfaces : List Interface) (s : List ℕ) (fault : FaultKind) → HasInterfaceFault interfaces s fault →
    ((fault ≡ WrongLength) × (length s < 20)) ⊎ ((fault ≡ TooManyInterfaces) × (20 ≤ length s))
interface_is interfaces s NoCapture h = absurd h
interface_is interfaces s OtherVersion h = absurd h
interface_is interfaces s WrongLength h = inl (refl, h)
interface_is interfaces s RecordTooLong h = absurd h
interface_is interfaces s LengthsDiffer h = absurd h
interface_is interfaces s UnknownInterface h = absurd h
interface_is interfaces s TooManyInterfaces h = inr (refl, h.0)
interface_is interfaces s CutRecord h = absurd h
interface_is interfaces s OutOfMemory h = absurd h

one_interface_fault : (s : List ℕ) (f g : FaultKind) →
    ((f ≡ WrongLength) × (length s < 20)) ⊎ ((f ≡ TooManyInterfaces) × (20 ≤ length s)) →
    ((g ≡ WrongLength) × (length s < 20)) ⊎ ((g ≡ TooManyInterfaces) × (20 ≤ length s)) → f ≡ g
one_interface_fault s f g (inl (e, h)) (inl (d, k)) = e ∙ sym d
one_interface_fault s f g (inl (e, h)) (inr (d, k)) = absurd (omega arith)
one_interface_fault s f g (inr (e, h)) (inl (d, k)) = absurd (omega arith)
one_interface_fault s f g (inr (e, h)) (inr (d, k)) = e ∙ sym d

timed_one : (n : ℕ) → IsTimedType n → n ≡ 1 → ⊥
timed_one n timed e = not_timed n 1 timed e (λ d. omega (arith, d)) (λ d. omega (arith, d))

timed_three : (n : ℕ) → IsTimedType n → n ≡ 3 → ⊥
timed_three n timed e = not_timed n 3 timed e (λ d. omega (arith, d)) (λ d. omega (arith, d))

one_content : (order : Order) (interfaces : List Interface) (s : List ℕ) (f g : FaultKind) →
    HasContentFault order interfaces s f → HasContentFault order interfaces s g → f ≡ g
one_content order interfaces s f g (inl (one, h)) (inl (same, k)) =
    one_interface_fault s f g (interface_is interfaces s f h) (interface_is interfaces s g k)
one_content order interfaces s f g (inl (one, h)) (inr (inl (timed, k))) =
    absurd (timed_one (block_type order s) timed one)
one_content order interfaces s f g (inl (one, h)) (inr (inr (three, k))) = absurd (omega (arith, one, three))
one_content order interfaces s f g (inr (inl (timed, h))) (inl (one, k)) =
    absurd (timed_one (block_type order s) timed one)
one_content order interfaces s f g (inr (inl (timed, h))) (inr (inl (same, k))) =
    one_timed order interfaces s f g (timed_is order interfaces s f h) (timed_is order interfaces s g k)
one_content order interfaces s f g (inr (inl (timed, h))) (inr (inr (three, k))) =
    absurd (timed_three (block_type order s) timed three)
one_content order interfaces s f g (inr (inr (three, h))) (inl (one, k)) = absurd (omega (arith, one, three))
one_content order interfaces s f g (inr (inr (three, h))) (inr (inl (timed, k))) =
    absurd (timed_three (block_type order s) timed three)
one_content order interfaces s f g (inr (inr (three, h))) (inr (inr (same, k))) =
    one_simple order interfaces s f g (simple_is order interfaces s f h) (simple_is order interfaces s g k)

one_block_fault : (order : Order) (interfaces : List Interface) (s : List ℕ) (f g : FaultKind) →
    HasBlockFault order interfaces s f → HasBlockFault order interfaces s g → f ≡ g
one_block_fault order interfaces s f g (inl h) (inl k) =
    one_length order s f g (length_is order s f h) (length_is order s g k)
one_block_fault order interfaces s f g (inl h) (inr (block, k)) =
    absurd (whole_or_length order s (block_size order s) f block h)
one_block_fault order interfaces s f g (inr (block, h)) (inl k) =
    absurd (whole_or_length order s (block_size order s) g block k)
one_block_fault order interfaces s f g (inr (block, h)) (inr (same, k)) =
    one_content order interfaces (take (block_size order s) s) f g h k

one_item_fault : (order : Order) (interfaces : List Interface) (s : List ℕ) (f g : FaultKind) →
    HasSectionItemFault order interfaces s f → HasSectionItemFault order interfaces s g → f ≡ g
one_item_fault order interfaces s f g (inl (has, kind, h)) (inl (also, same, k)) =
    one_section_fault s f g (section_is s f h) (section_is s g k)
one_item_fault order interfaces s f g (inl (has, kind, h)) (inr (also, other, k)) = absurd (other kind)
one_item_fault order interfaces s f g (inr (has, other, h)) (inl (also, kind, k)) = absurd (other kind)
one_item_fault order interfaces s f g (inr (has, other, h)) (inr (also, same, k)) =
    one_block_fault order interfaces s f g h k

one_start_fault : (s : List ℕ) (f g : FaultKind) →
    ((magic_of s ≡ None) × (f ≡ NoCapture)) ⊎ HasHeaderFault s f →
    ((magic_of s ≡ None) × (g ≡ NoCapture)) ⊎ HasHeaderFault s g → f ≡ g
one_start_fault s f g (inl (none, e)) (inl (same, d)) = e ∙ sym d
one_start_fault s f g (inl (none, e)) (inr k) =
    let is = header_is s g k in
    absurd (none_some is.1 (sym none ∙ is.2))
one_start_fault s f g (inr h) (inl (none, d)) =
    let is = header_is s f h in
    absurd (none_some is.1 (sym none ∙ is.2))
one_start_fault s f g (inr h) (inr k) = (header_is s f h).0 ∙ sym (header_is s g k).0

pub one_fault : (layout : Layout) (interfaces : List Interface) (s : List ℕ) (f g : FaultKind) →
    HasFrontFault layout interfaces s f → HasFrontFault layout interfaces s g → f ≡ g
one_fault Start interfaces s f g (inl (has, kind, h)) (inl (also, same, k)) =
    one_section_fault s f g (section_is s f h) (section_is s g k)
one_fault Start interfaces s f g (inl (has, kind, h)) (inr (also, other, k)) = absurd (other kind)
one_fault Start interfaces s f g (inr (has, other, h)) (inl (also, kind, k)) = absurd (other kind)
one_fault Start interfaces s f g (inr (has, other, h)) (inr (also, same, k)) = one_start_fault s f g h k
one_fault (Pcap form) interfaces s f g h k = (record_is form s f h).0 ∙ sym (record_is form s g k).0
one_fault (Pcapng order) interfaces s f g h k = one_item_fault order interfaces s f g h k

-- no whole block is there where a part of one is
whole_or_part : (order : Order) (s : List ℕ) → IsBlock order (take (block_size order s) s) → IsBlockPart order s → ⊥
whole_or_part order s is (inl short) =
    omega (arith, short, is.fits.least, length-take (block_size order s) s)
whole_or_part order s is (inr (less, fits)) =
    let P : List ℕ → Type 0 = λ l. IsBlock order l in
    let all : IsBlock order s = subst P (take_all (block_size order s) s (omega (arith, less))) is in
    omega (arith, all.size, less)

length_or_part : (order : Order) (s : List ℕ) (fault : FaultKind) → LengthIs order s fault → IsBlockPart order s →
    8 ≤ length s → ⊥
length_or_part order s fault h (inl short) has = omega arith
length_or_part order s fault (low_length e h) (inr (less, fits)) has = omega (arith, h, fits.least)
length_or_part order s fault (odd_length e h) (inr (less, fits)) has = h fits.aligned
length_or_part order s fault (long_length e least four most) (inr (less, fits)) has = omega (arith, most, fits.most)
length_or_part order s fault (other_length e within also) (inr (less, fits)) has = omega (arith, within, less)

section_has : (s : List ℕ) (fault : FaultKind) → HasSectionFault s fault → 12 ≤ length s
section_has s NoCapture h = h.0
section_has s OtherVersion h = h.0
section_has s WrongLength h = h.0
section_has s RecordTooLong h = h.0
section_has s LengthsDiffer h = h.0
section_has s UnknownInterface h = h.0
section_has s TooManyInterfaces h = h.0
section_has s CutRecord h = h.0
section_has s OutOfMemory h = h.0

ordered_or_part : (order : Order) (s : List ℕ) (fault : FaultKind) → OrderedFault s fault order →
    IsBlockPart order s → 8 ≤ length s → ⊥
ordered_or_part order s fault (inl h) part has = length_or_part order s fault (length_is order s fault h) part has
ordered_or_part order s fault (inr (block, h)) part has = whole_or_part order s block part

section_part_or_fault : (s : List ℕ) (fault : FaultKind) → SectionIs s fault → 12 ≤ length s → IsSectionPart s → ⊥
section_part_or_fault s fault h has (inl short) = omega arith
section_part_or_fault s fault (no_order e none) has (inr (also, order, ordered, part)) =
    none_some order (sym none ∙ ordered)
section_part_or_fault s fault (in_order other at h) has (inr (also, order, ordered, part)) =
    let same : order ≡ other = same_some order other (sym ordered ∙ at) in
    ordered_or_part other s fault h (subst (λ (o : Order). IsBlockPart o s) same part) (omega arith)

block_part_or_fault : (order : Order) (interfaces : List Interface) (s : List ℕ) (fault : FaultKind) →
    HasBlockFault order interfaces s fault → IsBlockPart order s → 8 ≤ length s → ⊥
block_part_or_fault order interfaces s fault (inl h) part has =
    length_or_part order s fault (length_is order s fault h) part has
block_part_or_fault order interfaces s fault (inr (block, h)) part has = whole_or_part order s block part

item_part_or_fault : (order : Order) (interfaces : List Interface) (s : List ℕ) (fault : FaultKind) →
    IsSectionItemPart order s → HasSectionItemFault order interfaces s fault → ⊥
item_part_or_fault order interfaces s fault (inl short) (inl (has, kind, h)) = omega arith
item_part_or_fault order interfaces s fault (inl short) (inr (has, other, h)) = omega arith
item_part_or_fault order interfaces s fault (inr (inl (also, same, part))) (inl (has, kind, h)) =
    section_part_or_fault s fault (section_is s fault h) (section_has s fault h) part
item_part_or_fault order interfaces s fault (inr (inl (also, kind, part))) (inr (has, other, h)) = other kind
item_part_or_fault order interfaces s fault (inr (inr (also, other, part))) (inl (has, kind, h)) = other kind
item_part_or_fault order interfaces s fault (inr (inr (also, same, part))) (inr (has, other, h)) =
    block_part_or_fault order interfaces s fault h part has

header_part_or_fault : (s : List ℕ) (fault : FaultKind) → magic_of s ≢ None → length s < 24 →
    ((magic_of s ≡ None) × (fault ≡ NoCapture)) ⊎ HasHeaderFault s fault → ⊥
header_part_or_fault s fault magic less (inl (none, e)) = magic none
header_part_or_fault s fault magic less (inr h) = omega (arith, (header_is s fault h).3, less)

start_part_or_fault : (interfaces : List Interface) (s : List ℕ) (fault : FaultKind) → IsPart Start s →
    HasFrontFault Start interfaces s fault → ⊥
start_part_or_fault interfaces s fault (inl short) (inl (has, kind, h)) = omega arith
start_part_or_fault interfaces s fault (inl short) (inr (has, other, h)) = omega arith
start_part_or_fault interfaces s fault (inr (inl (also, same, part))) (inl (has, kind, h)) =
    section_part_or_fault s fault (section_is s fault h) (section_has s fault h) part
start_part_or_fault interfaces s fault (inr (inl (also, kind, part))) (inr (has, other, h)) = other kind
start_part_or_fault interfaces s fault (inr (inr (also, other, magic, part))) (inl (has, kind, h)) = other kind
start_part_or_fault interfaces s fault (inr (inr (also, same, magic, part))) (inr (has, other, h)) =
    header_part_or_fault s fault magic part h

record_part_or_fault : (form : PcapForm) (s : List ℕ) (fault : FaultKind) → IsRecordPart form s →
    HasRecordFault form s fault → ⊥
record_part_or_fault form s fault (inl short) h = omega (arith, short, (record_is form s fault h).1)
record_part_or_fault form s fault (inr (has, most, less)) h = omega (arith, most, (record_is form s fault h).2)

pub part_or_fault : (layout : Layout) (interfaces : List Interface) (s : List ℕ) (fault : FaultKind) →
    IsPart layout s → HasFrontFault layout interfaces s fault → ⊥
part_or_fault Start interfaces s fault part h = start_part_or_fault interfaces s fault part h
part_or_fault (Pcap form) interfaces s fault part h = record_part_or_fault form s fault part h
part_or_fault (Pcapng order) interfaces s fault part h = item_part_or_fault order interfaces s fault part h
