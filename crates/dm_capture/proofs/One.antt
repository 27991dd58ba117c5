-- Octets begin with one item at most.
use Rattle.std.proofs.Common.{◌≡◌, ◌≤◌, ◌<◌, ◌⊎◌, inl, inr, ℕ, zero, suc, ◌+◌, ◌%◌, Option, None, Some, MatchOption, List, [], ◌∷◌, ◌++◌, length, take, drop, slice_index, refl, sym, ◌∙◌, ap, subst, arith}
use Rattle.std.proofs.lemmas.List.{take_at, length-drop, drop-append-le}
use Rattle.std.proofs.lemmas.Bool.{cases_lt, cases_eq}
use Rattle.dm_capture.specs.declared.order.Order.{Order}
use Rattle.dm_capture.specs.declared.order.Order.TheVariants.{Big, Little}
use Rattle.dm_capture.specs.declared.time.Resolution.{Resolution}
use Rattle.dm_capture.specs.declared.time.Resolution.TheVariants.{Decimal}
use Rattle.dm_capture.specs.declared.interface.Interface.{Interface}
use Rattle.dm_capture.specs.declared.pcap.PcapForm.{PcapForm}
use Rattle.dm_capture.specs.declared.packet.Record.{Record}
use Rattle.dm_capture.specs.declared.front_item.Layout.{Layout}
use Rattle.dm_capture.specs.declared.front_item.Layout.TheVariants.{Start, Pcap, Pcapng}
use Rattle.dm_capture.specs.declared.front_item.Holds.{Holds}
use Rattle.dm_capture.specs.declared.front_item.Holds.TheVariants.{Form, Section, Description, PacketRecord, Other}
use Rattle.dm_capture.specs.Numbers.{ordered_number}
use Rattle.dm_capture.specs.Times.{resolution_of}
use Rattle.dm_capture.specs.Blocks.{block_type, IsBlock}
use Rattle.dm_capture.specs.Options.{BlockOption, AreOptions, first_value, option_size, option_at}
use Rattle.dm_capture.specs.Interfaces.{IsResolution, IsOffset, IsInterface, options_from}
use Rattle.dm_capture.specs.Packets.{IsTimedBlock, IsSimpleBlock, timed_record, simple_record}
use Rattle.dm_capture.specs.Pcap.{IsForm, IsRecord, pcap_record, IsPcapHeader, IsPcapRecord}
use Rattle.dm_capture.specs.Sections.{order_by, IsSection, IsSectionHeader}
use Rattle.dm_capture.specs.Contents.{IsTimedType, IsOtherType, BlockHolds, IsBlockItem, IsSectionItem}
use Rattle.dm_capture.specs.Items.{IsItem}
use Rattle.dm_capture.proofs.Fields.{number_joined}

-- the numbers of a front are those of the whole
pub number_behind : (order : Order) (k i : ℕ) (s x : List ℕ) → i + k ≤ length s →
    ordered_number order k (drop i (s ++ x)) ≡ ordered_number order k (drop i s)
number_behind order k i s x within =
    ap (λ l. ordered_number order k l) (drop-append-le i s x (omega arith)) ∙
    number_joined order k (drop i s) x (omega (arith, length-drop i s))

same_number : (order : Order) (k i : ℕ) (s t x y : List ℕ) → i + k ≤ length s → i + k ≤ length t → s ++ x ≡ t ++ y →
    ordered_number order k (drop i s) ≡ ordered_number order k (drop i t)
same_number order k i s t x y a b e =
    sym (number_behind order k i s x a) ∙ ap (λ l. ordered_number order k (drop i l)) e ∙ number_behind order k i t y b

same_front : (s t x y : List ℕ) → s ++ x ≡ t ++ y → length s ≡ length t → s ≡ t
same_front s t x y e len =
    sym (take_at s x (length s) refl) ∙ ap (λ l. take (length s) l) e ∙ take_at t y (length s) (sym len)

one_block : (order : Order) (s t x y : List ℕ) → IsBlock order s → IsBlock order t → s ++ x ≡ t ++ y → s ≡ t
one_block order s t x y a b e =
    let in_s : 4 + 4 ≤ length s = omega (arith, a.fits.least) in
    let in_t : 4 + 4 ≤ length t = omega (arith, b.fits.least) in
    same_front s t x y e (sym a.size ∙ same_number order 4 4 s t x y in_s in_t e ∙ b.size)

pub same_some : {X : Type 0} (x y : X) → Some x ≡ Some y → x ≡ y
same_some x y e = cc

-- the order of a section is that of its third four octets
one_order : (a b : Order) (s t x y : List ℕ) → IsSection a s → IsSection b t → s ++ x ≡ t ++ y → a ≡ b
one_order a b s t x y is also e =
    let in_s : 8 + 4 ≤ length s = omega (arith, is.least) in
    let in_t : 8 + 4 ≤ length t = omega (arith, also.least) in
    same_some a b (sym is.ordered ∙
    ap (λ n. order_by n (ordered_number Little 4 (drop 8 s))) (same_number Big 4 8 s t x y in_s in_t e) ∙
    ap (λ n. order_by (ordered_number Big 4 (drop 8 t)) n) (same_number Little 4 8 s t x y in_s in_t e) ∙ also.ordered)

pub one_section : (a b : Order) (s t x y : List ℕ) → IsSection a s → IsSection b t → s ++ x ≡ t ++ y → (s ≡ t) × (a ≡ b)
one_section a b s t x y is also e =
    let order : a ≡ b = one_order a b s t x y is also e in
    let P : Order → Type 0 = λ o. IsBlock o t in
    (one_block a s t x y is.block (subst P (sym order) also.block) e, order)

abbrev pub magic_pair : Order → Resolution → Order × Resolution
magic_pair order resolution = (order, resolution)

abbrev form_of : Order → Resolution → ℕ → PcapForm
form_of order resolution link = record { order = order; resolution = resolution; link = link }

same_form : (f g : PcapForm) (s : List ℕ) → IsForm s f → IsForm s g → f ≡ g
same_form f g s is also =
    let both = same_some {X = Order × Resolution} (magic_pair f.order f.resolution) (magic_pair g.order g.resolution)
    (sym is.magic ∙ also.magic) in
    let order : f.order ≡ g.order = ap (λ (p : Order × Resolution). p.0) both in
    let resolution : f.resolution ≡ g.resolution = ap (λ (p : Order × Resolution). p.1) both in
    let link : f.link ≡ g.link = is.link ∙ ap (λ o. ordered_number o 4 (drop 20 s) % 65536) order ∙ sym also.link in
    ap (λ o. form_of o f.resolution f.link) order ∙ ap (λ r. form_of g.order r f.link) resolution ∙
    ap (λ l. form_of g.order g.resolution l) link

pub one_form : (f g : PcapForm) (s t x y : List ℕ) → IsForm s f → IsForm t g → s ++ x ≡ t ++ y → (s ≡ t) × (f ≡ g)
one_form f g s t x y is also e =
    let same : s ≡ t = same_front s t x y e (is.size ∙ sym also.size) in
    let P : List ℕ → Type 0 = λ l. IsForm l g in
    (same, same_form f g s is (subst P (sym same) also))

pub one_record : (form : PcapForm) (r q : Record) (s t x y : List ℕ) → IsRecord form s r → IsRecord form t q →
    s ++ x ≡ t ++ y → (s ≡ t) × (r ≡ q)
one_record form r q s t x y is also e =
    let in_s : 8 + 4 ≤ length s = omega (arith, is.size) in
    let in_t : 8 + 4 ≤ length t = omega (arith, also.size) in
    let same : s ≡ t = same_front s t x y e
    (sym is.size ∙ ap (λ n. 16 + n) (same_number form.order 4 8 s t x y in_s in_t e) ∙ also.size) in
    (same, is.says ∙ ap (λ l. pcap_record form (ordered_number form.order 4 (drop 8 l)) l) same ∙ sym also.says)

-- octets spell options where what is left behind an option does
options_step : (order : Order) (s : List ℕ) →
    ((k : ℕ) → 0 < k → k ≤ length s → (options : List BlockOption) × AreOptions order (drop k s) options) →
    (length s < 4) ⊎ (4 ≤ length s) → (ordered_number order 2 s ≡ 0) ⊎ (ordered_number order 2 s ≡ 0 → ⊥) →
    (length s < option_size order s) ⊎ (option_size order s ≤ length s) →
    (options : List BlockOption) × AreOptions order s options
options_step order s later (inl short) code whole = ([], inl short)
options_step order s later (inr head) (inl ended) whole = ([], inr (inl ended))
options_step order s later (inr head) (inr some) (inl part) = ([], inr (inr part))
options_step order s later (inr head) (inr some) (inr whole) =
    let found = later (option_size order s) (omega arith) whole in
    (option_at order s ∷ found.0, (head, some, whole, refl, found.1))

options_within : (n : ℕ) (order : Order) (s : List ℕ) → length s ≤ n →
    (options : List BlockOption) × AreOptions order s options
options_within zero order s h = ([], inl (omega arith))
options_within (suc n) order s h =
    options_step order s (λ k pos within. options_within n order (drop k s) (omega (arith, length-drop k s)))
    (cases_lt (length s) 4) (cases_eq (ordered_number order 2 s) 0) (cases_lt (length s) (option_size order s))

pub options_spelled : (order : Order) (s : List ℕ) → (options : List BlockOption) × AreOptions order s options
options_spelled order s = options_within (length s) order s (omega arith)

same_match : {X Y : Type 0} (o : Option X) (d : Y) (f : X → Y) (r q : Y) → MatchOption o (r ≡ d) (λ v. r ≡ f v) →
    MatchOption o (q ≡ d) (λ v. q ≡ f v) → r ≡ q
same_match None d f r q h k = h ∙ sym k
same_match (Some v) d f r q h k = h ∙ sym k

same_said : (order : Order) (s : List ℕ) (r q : Resolution) → IsResolution order s r → IsResolution order s q → r ≡ q
same_said order s r q h k =
    let said = options_spelled order s in
    same_match (first_value 9 1 said.0) (Decimal 6) (λ value. resolution_of (slice_index value 0)) r q
    (h said.0 said.1) (k said.0 said.1)

same_offset : (order : Order) (s : List ℕ) (r q : ℕ) → IsOffset order s r → IsOffset order s q → r ≡ q
same_offset order s r q h k =
    let said = options_spelled order s in
    same_match (first_value 14 8 said.0) 0 (λ value. ordered_number order 8 value) r q (h said.0 said.1) (k said.0 said.1)

abbrev interface_of : ℕ → ℕ → Resolution → ℕ → Interface
interface_of link limit resolution offset =
    record { link = link; limit = limit; resolution = resolution; offset = offset }

same_interface : (order : Order) (s : List ℕ) (i j : Interface) → IsInterface order s i → IsInterface order s j → i ≡ j
same_interface order s i j h k =
    ap (λ l. interface_of l i.limit i.resolution i.offset) (h.link ∙ sym k.link) ∙
    ap (λ l. interface_of j.link l i.resolution i.offset) (h.limit ∙ sym k.limit) ∙
    ap (λ l. interface_of j.link j.limit l i.offset)
    (same_said order (options_from 16 s) i.resolution j.resolution h.resolution k.resolution) ∙
    ap (λ l. interface_of j.link j.limit j.resolution l)
    (same_offset order (options_from 16 s) i.offset j.offset h.offset k.offset)

same_timed : (order : Order) (interfaces : List Interface) (s : List ℕ) (r q : Record) →
    IsTimedBlock order interfaces s r → IsTimedBlock order interfaces s q → r ≡ q
same_timed order interfaces s r q (i, at, is) (j, there, also) =
    is.says ∙ ap (λ k. timed_record order k s) (same_some i j (sym at ∙ there)) ∙ sym also.says

same_simple : (order : Order) (interfaces : List Interface) (s : List ℕ) (r q : Record) →
    IsSimpleBlock order interfaces s r → IsSimpleBlock order interfaces s q → r ≡ q
same_simple order interfaces s r q (i, at, is) (j, there, also) =
    is.says ∙ ap (λ k. simple_record order k s) (same_some i j (sym at ∙ there)) ∙ sym also.says

-- the type of a block tells what it is
pub not_timed : (n m : ℕ) → IsTimedType n → n ≡ m → (m ≡ 2 → ⊥) → (m ≡ 6 → ⊥) → ⊥
not_timed n m (inl two) e a b = a (sym e ∙ two)
not_timed n m (inr six) e a b = b (sym e ∙ six)

pub other_timed : (n : ℕ) → IsOtherType n → IsTimedType n → ⊥
other_timed n other (inl two) = other.no_packet two
other_timed n other (inr six) = other.no_enhanced_packet six

pub described_packet : (order : Order) (interfaces : List Interface) (s : List ℕ) (stands : Record) →
    block_type order s ≡ 1 → BlockHolds order interfaces s (PacketRecord stands) → ⊥
described_packet order interfaces s stands one (inl timed) =
    not_timed (block_type order s) 1 timed.0 one (λ e. omega (arith, e)) (λ e. omega (arith, e))
described_packet order interfaces s stands one (inr simple) = omega (arith, one, simple.0)

pub other_packet : (order : Order) (interfaces : List Interface) (s : List ℕ) (stands : Record) →
    IsOtherType (block_type order s) → BlockHolds order interfaces s (PacketRecord stands) → ⊥
other_packet order interfaces s stands other (inl timed) = other_timed (block_type order s) other timed.0
other_packet order interfaces s stands other (inr simple) = other.no_simple_packet simple.0

same_packet : (order : Order) (interfaces : List Interface) (s : List ℕ) (r q : Record) →
    BlockHolds order interfaces s (PacketRecord r) → BlockHolds order interfaces s (PacketRecord q) → r ≡ q
same_packet order interfaces s r q (inl h) (inl k) = same_timed order interfaces s r q h.1 k.1
same_packet order interfaces s r q (inl h) (inr k) =
    absurd (not_timed (block_type order s) 3 h.0 k.0 (λ e. omega (arith, e)) (λ e. omega (arith, e)))
same_packet order interfaces s r q (inr h) (inl k) =
    absurd (not_timed (block_type order s) 3 k.0 h.0 (λ e. omega (arith, e)) (λ e. omega (arith, e)))
same_packet order interfaces s r q (inr h) (inr k) = same_simple order interfaces s r q h.1 k.1

-- a block says one thing
one_said : (order : Order) (interfaces : List Interface) (s : List ℕ) (holds other : Holds) →
    BlockHolds order interfaces s holds → BlockHolds order interfaces s other → holds ≡ other
one_said order interfaces s (Form f) g h k = absurd h
one_said order interfaces s (Section o) g h k = absurd h
one_said order interfaces s (Description i) (Form f) h k = absurd k
one_said order interfaces s (Description i) (Section o) h k = absurd k
one_said order interfaces s (Description i) (Description j) h k =
    ap (λ l. Description l) (same_interface order s i j h.2 k.2)
one_said order interfaces s (Description i) (PacketRecord q) h k =
    absurd (described_packet order interfaces s q h.0 k)
one_said order interfaces s (Description i) Other h k = absurd (k.no_interface h.0)
one_said order interfaces s (PacketRecord r) (Form f) h k = absurd k
one_said order interfaces s (PacketRecord r) (Section o) h k = absurd k
one_said order interfaces s (PacketRecord r) (Description j) h k =
    absurd (described_packet order interfaces s r k.0 h)
one_said order interfaces s (PacketRecord r) (PacketRecord q) h k =
    ap (λ l. PacketRecord l) (same_packet order interfaces s r q h k)
one_said order interfaces s (PacketRecord r) Other h k = absurd (other_packet order interfaces s r k h)
one_said order interfaces s Other (Form f) h k = absurd k
one_said order interfaces s Other (Section o) h k = absurd k
one_said order interfaces s Other (Description j) h k = absurd (h.no_interface k.0)
one_said order interfaces s Other (PacketRecord q) h k = absurd (other_packet order interfaces s q h k)
one_said order interfaces s Other Other h k = refl

pub one_block_item : (order : Order) (interfaces : List Interface) (s t x y : List ℕ) (holds other : Holds) →
    IsBlockItem order interfaces s holds → IsBlockItem order interfaces t other → s ++ x ≡ t ++ y →
    (s ≡ t) × (holds ≡ other)
one_block_item order interfaces s t x y holds other h k e =
    let same : s ≡ t = one_block order s t x y h.block k.block e in
    let P : List ℕ → Type 0 = λ l. BlockHolds order interfaces l other in
    (same, one_said order interfaces s holds other h.says (subst P (sym same) k.says))

-- a header of a section, or another block
section_or_block : (order next : Order) (interfaces : List Interface) (s t x y : List ℕ) (holds : Holds) →
    IsSection next s → IsBlockItem order interfaces t holds → s ++ x ≡ t ++ y → ⊥
section_or_block order next interfaces s t x y holds is also e =
    let in_s : 0 + 4 ≤ length s = omega (arith, is.least) in
    let in_t : 0 + 4 ≤ length t = omega (arith, also.block.fits.least) in
    also.no_section (sym (same_number Big 4 0 s t x y in_s in_t e) ∙ is.kind)

section_or_form : (order : Order) (form : PcapForm) (s t x y : List ℕ) → IsSection order s → IsForm t form →
    s ++ x ≡ t ++ y → ⊥
section_or_form order form s t x y is also e =
    let in_s : 0 + 4 ≤ length s = omega (arith, is.least) in
    let in_t : 0 + 4 ≤ length t = omega (arith, also.size) in
    also.no_section (sym (same_number Big 4 0 s t x y in_s in_t e) ∙ is.kind)

-- what a section's item is, by what it says
pub data InSection (order : Order) (interfaces : List Interface) (s : List ℕ) (holds : Holds) : Type 0 where
  a_section : (next : Order) → holds ≡ Section next → IsSection next s → InSection order interfaces s holds
  a_block : IsBlockItem order interfaces s holds → InSection order interfaces s holds

pub in_section : (order : Order) (interfaces : List Interface) (s : List ℕ) (holds : Holds) →
    IsSectionItem order interfaces s holds → InSection order interfaces s holds
in_section order interfaces s (Form f) h = a_block h
in_section order interfaces s (Section next) h = a_section next refl h
in_section order interfaces s (Description i) h = a_block h
in_section order interfaces s (PacketRecord r) h = a_block h
in_section order interfaces s Other h = a_block h

pub one_in_section : (order : Order) (interfaces : List Interface) (s t x y : List ℕ) (holds other : Holds) →
    InSection order interfaces s holds → InSection order interfaces t other → s ++ x ≡ t ++ y →
    (s ≡ t) × (holds ≡ other)
one_in_section order interfaces s t x y holds g (a_section a at is) (a_section b there also) e =
    let same = one_section a b s t x y is also e in
    (same.0, at ∙ ap (λ o. Section o) same.1 ∙ sym there)
one_in_section order interfaces s t x y holds g (a_section a at is) (a_block also) e =
    absurd (section_or_block order a interfaces s t x y g is also e)
one_in_section order interfaces s t x y holds g (a_block is) (a_section b there also) e =
    absurd (section_or_block order b interfaces t s y x holds also is (sym e))
one_in_section order interfaces s t x y holds g (a_block is) (a_block also) e =
    one_block_item order interfaces s t x y holds g is also e

-- what a file's first item is
pub data IsFirst (s : List ℕ) (holds : Holds) : Type 0 where
  first_form : (form : PcapForm) → holds ≡ Form form → IsForm s form → IsFirst s holds
  first_section : (order : Order) → holds ≡ Section order → IsSection order s → IsFirst s holds

first_of_form : (s : List ℕ) (holds : Holds) → IsPcapHeader s holds → IsFirst s holds
first_of_form s (Form f) h = first_form f refl h
first_of_form s (Section next) h = absurd h
first_of_form s (Description i) h = absurd h
first_of_form s (PacketRecord r) h = absurd h
first_of_form s Other h = absurd h

first_of_section : (s : List ℕ) (holds : Holds) → IsSectionHeader s holds → IsFirst s holds
first_of_section s (Form f) h = absurd h
first_of_section s (Section next) h = first_section next refl h
first_of_section s (Description i) h = absurd h
first_of_section s (PacketRecord r) h = absurd h
first_of_section s Other h = absurd h

pub first_item : (s : List ℕ) (holds : Holds) → IsPcapHeader s holds ⊎ IsSectionHeader s holds → IsFirst s holds
first_item s holds (inl h) = first_of_form s holds h
first_item s holds (inr h) = first_of_section s holds h

one_first : (s t x y : List ℕ) (holds other : Holds) → IsFirst s holds → IsFirst t other → s ++ x ≡ t ++ y →
    (s ≡ t) × (holds ≡ other)
one_first s t x y holds g (first_form f at is) (first_form k there also) e =
    let same = one_form f k s t x y is also e in
    (same.0, at ∙ ap (λ o. Form o) same.1 ∙ sym there)
one_first s t x y holds g (first_form f at is) (first_section b there also) e =
    absurd (section_or_form b f t s y x also is (sym e))
one_first s t x y holds g (first_section a at is) (first_form k there also) e =
    absurd (section_or_form a k s t x y is also e)
one_first s t x y holds g (first_section a at is) (first_section b there also) e =
    let same = one_section a b s t x y is also e in
    (same.0, at ∙ ap (λ o. Section o) same.1 ∙ sym there)

-- what a record says
pub data IsStanding (form : PcapForm) (s : List ℕ) (holds : Holds) : Type 0 where
  a_record : (stands : Record) → holds ≡ PacketRecord stands → IsRecord form s stands → IsStanding form s holds

pub standing : (form : PcapForm) (s : List ℕ) (holds : Holds) → IsPcapRecord form s holds → IsStanding form s holds
standing form s (Form f) h = absurd h
standing form s (Section next) h = absurd h
standing form s (Description i) h = absurd h
standing form s (PacketRecord r) h = a_record r refl h
standing form s Other h = absurd h

one_standing : (form : PcapForm) (s t x y : List ℕ) (holds other : Holds) → IsStanding form s holds →
    IsStanding form t other → s ++ x ≡ t ++ y → (s ≡ t) × (holds ≡ other)
one_standing form s t x y holds g (a_record r at is) (a_record q there also) e =
    let same = one_record form r q s t x y is also e in
    (same.0, at ∙ ap (λ o. PacketRecord o) same.1 ∙ sym there)

pub one_item : (layout : Layout) (interfaces : List Interface) (s t x y : List ℕ) (holds other : Holds) →
    IsItem layout interfaces s holds → IsItem layout interfaces t other → s ++ x ≡ t ++ y →
    (s ≡ t) × (holds ≡ other)
one_item Start interfaces s t x y holds g h k e =
    one_first s t x y holds g (first_item s holds h) (first_item t g k) e
one_item (Pcap form) interfaces s t x y holds g h k e =
    one_standing form s t x y holds g (standing form s holds h) (standing form t g k) e
one_item (Pcapng order) interfaces s t x y holds g h k e =
    one_in_section order interfaces s t x y holds g (in_section order interfaces s holds h)
    (in_section order interfaces t g k) e
