-- What is read of a front is what the front says by itself.
use Rattle.std.proofs.Common.{◌≡◌, ◌≢◌, ◌≤◌, ℕ, ◌+◌, ◌%◌, Some, List, length, take, drop, sym, ◌∙◌, ap, subst, inr, arith}
use Rattle.std.proofs.lemmas.List.{length-take-le}
use Rattle.dm_capture.specs.declared.order.Order.{Order}
use Rattle.dm_capture.specs.declared.order.Order.TheVariants.{Big, Little}
use Rattle.dm_capture.specs.declared.time.Resolution.{Resolution}
use Rattle.dm_capture.specs.declared.pcap.PcapForm.{PcapForm}
use Rattle.dm_capture.specs.declared.packet.Record.{Record}
use Rattle.dm_capture.specs.declared.fault.FaultKind.TheVariants.{OtherVersion}
use Rattle.dm_capture.specs.Numbers.{ordered_number}
use Rattle.dm_capture.specs.Blocks.{section_type, block_size, IsBlock}
use Rattle.dm_capture.specs.Sections.{section_order, order_by, IsSection, HasSectionFault, HasSectionContentFault}
use Rattle.dm_capture.specs.Pcap.{magic_of, magic_by, IsForm, IsRecord, pcap_record}
use Rattle.dm_capture.proofs.Fields.{number_front}

-- a property of the first four octets in both orders
both_fronts : {X : Type 0} (F : ℕ → ℕ → X) (i n : ℕ) (s : List ℕ) → i + 4 ≤ n → n ≤ length s →
    F (ordered_number Big 4 (drop i (take n s))) (ordered_number Little 4 (drop i (take n s))) ≡
    F (ordered_number Big 4 (drop i s)) (ordered_number Little 4 (drop i s))
both_fronts F i n s within has =
    ap (λ m. F m (ordered_number Little 4 (drop i (take n s)))) (number_front Big 4 i n s within has) ∙
    ap (λ m. F (ordered_number Big 4 (drop i s)) m) (number_front Little 4 i n s within has)

pub magic_front : (n : ℕ) (s : List ℕ) → 4 ≤ n → n ≤ length s → magic_of (take n s) ≡ magic_of s
magic_front n s within has = both_fronts magic_by 0 n s within has

pub order_front : (n : ℕ) (s : List ℕ) → 12 ≤ n → n ≤ length s → section_order (take n s) ≡ section_order s
order_front n s within has = both_fronts order_by 8 n s within has

-- a header that was read at the front
pub form_taken : (order : Order) (resolution : Resolution) (link : ℕ) (s : List ℕ) → 24 ≤ length s →
    ordered_number Big 4 s ≢ section_type → magic_of s ≡ Some (order, resolution) → ordered_number order 2 (drop 4 s) ≡ 2 →
    link ≡ ordered_number order 4 (drop 20 s) % 65536 →
    IsForm (take 24 s) (record { order = order; resolution = resolution; link = link })
form_taken order resolution link s has other magic version at =
    record {
      size = length-take-le 24 s has;
      no_section = λ e. other (sym (number_front Big 4 0 24 s (omega arith) has) ∙ e);
      magic = magic_front 24 s (omega arith) has ∙ magic;
      version = number_front order 2 4 24 s (omega arith) has ∙ version;
      link = at ∙ ap (λ n. n % 65536) (sym (number_front order 4 20 24 s (omega arith) has));
    }

-- a record that was read at the front
pub record_taken : (form : PcapForm) (captured : ℕ) (s : List ℕ) (stands : Record) →
    captured ≡ ordered_number form.order 4 (drop 8 s) → captured ≤ 262144 → 16 + captured ≤ length s →
    stands ≡ pcap_record form captured (take (16 + captured) s) →
    IsRecord form (take (16 + captured) s) stands
record_taken form captured s stands is most has says =
    let same : ordered_number form.order 4 (drop 8 (take (16 + captured) s)) ≡ captured =
    number_front form.order 4 8 (16 + captured) s (omega arith) has ∙ sym is in
    record {
      size = ap (λ n. 16 + n) same ∙ sym (length-take-le (16 + captured) s has);
      most = omega (arith, same);
      says = says ∙ ap (λ n. pcap_record form n (take (16 + captured) s)) (sym same);
    }

-- the header of a section that was read at the front
pub section_taken : (order : Order) (n : ℕ) (s : List ℕ) → 28 ≤ n → n ≤ length s → ordered_number Big 4 s ≡ section_type →
    section_order s ≡ Some order → IsBlock order (take n s) → ordered_number order 2 (drop 12 s) ≡ 1 →
    IsSection order (take n s)
section_taken order n s least has kind ordered block version =
    record {
      kind = number_front Big 4 0 n s (omega arith) has ∙ kind;
      ordered = order_front n s (omega arith) has ∙ ordered;
      block = block;
      least = omega (arith, length-take-le n s has);
      version = number_front order 2 12 n s (omega arith) has ∙ version;
    }

-- and of another version
pub version_fault : (order : Order) (n : ℕ) (s : List ℕ) → 28 ≤ n → n ≤ length s → section_order s ≡ Some order →
    n ≡ block_size order s → IsBlock order (take n s) → ordered_number order 2 (drop 12 s) ≢ 1 →
    HasSectionFault s OtherVersion
version_fault order n s least has ordered size block other =
    let P : ℕ → Type 0 = λ m. IsBlock order (take m s) × HasSectionContentFault order (take m s) OtherVersion in
    let at_n : P n = (
      block,
      (
        omega (arith, length-take-le n s has),
        λ e. other (sym (number_front order 2 12 n s (omega arith) has) ∙ e),
      ),
    ) in
    (omega arith, order, ordered, inr (subst P size at_n))
