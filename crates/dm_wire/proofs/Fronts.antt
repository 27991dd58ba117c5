-- The AVP at the front of octets, field by field.
use Rattle.std.proofs.Common.{◌≡◌, ◌<◌, ◌≤◌, ℕ, ◌+◌, ◌-◌, ◌*◌, ◌/◌, ◌^◌, Option, None, Some, IfSome, is_some, List, ◌∷◌, ◌++◌, length, take, drop, slice_index, refl, ◌∙◌, ap, arith, append_assoc}
use Rattle.std.proofs.lemmas.List.{take_more, length-take-le, length-drop, get_or-drop}
use Rattle.byteorder.specs.Endian.{big_number}
use Rattle.byteorder.specs.Numbers.{big_from-lt}
use Rattle.dm_wire.specs.declared.avp.Avp.{Avp}
use Rattle.dm_wire.specs.Spelling.{be, is_bit_set, avp_header_len, vendor_octets, SpellsAvp}
use Rattle.dm_wire.proofs.Numbers.{IsOctets, be-big_number-3, be-big_number-4}
use Rattle.dm_wire.proofs.Cuts.{take_cut}

-- what a reader has tested where it takes an AVP of this vendor and Length
pub record Tested (s : List ℕ) (vendor : Option ℕ) (len : ℕ) : Type 0 where
  pub octets : IsOctets s
  pub vendor_bit : is_bit_set (slice_index s 4) 128 ≡ is_some vendor
  pub len_is : len ≡ big_number 3 (drop 5 s)
  pub vendor_is : IfSome vendor (λ v. v ≡ big_number 4 (drop 8 s))
  pub above : avp_header_len vendor ≤ len
  pub within : (len + 3) / 4 * 4 ≤ length s

-- the AVP that such a reader takes
abbrev pub read_avp : List ℕ → Option ℕ → ℕ → Avp
read_avp s vendor len =
    record {
      code = big_number 4 s;
      vendor = vendor;
      mandatory = is_bit_set (slice_index s 4) 64;
      protected = is_bit_set (slice_index s 4) 32;
      bytes = take (len - avp_header_len vendor) (drop (avp_header_len vendor) s);
    }

pub octets_behind : (n : ℕ) (s : List ℕ) → IsOctets s → IsOctets (drop n s)
octets_behind n s o i = let e = get_or-drop n s i 0 in rw e (o (n + i))

-- the header has at least 8 octets
pub header_above : (vendor : Option ℕ) → 8 ≤ avp_header_len vendor
header_above None = omega arith
header_above (Some v) = omega arith

-- the Vendor-ID field, as it was read
vendor_read : (s : List ℕ) (vendor : Option ℕ) → IsOctets s → avp_header_len vendor ≤ length s →
    IfSome vendor (λ v. v ≡ big_number 4 (drop 8 s)) →
    vendor_octets vendor ≡ take (avp_header_len vendor - 8) (drop 8 s)
vendor_read s None o h e = refl
vendor_read s (Some v) o h e =
    rw e (be-big_number-4 (drop 8 s) (octets_behind 8 s o) (omega (arith, length-drop 8 s)))

vendor_below : (s : List ℕ) (vendor : Option ℕ) → IsOctets s → IfSome vendor (λ v. v ≡ big_number 4 (drop 8 s)) →
    IfSome vendor (λ v. v < 256 ^ 4)
vendor_below s None o e = tt
vendor_below s (Some v) o e = rw e (big_from-lt 0 4 (drop 8 s) (octets_behind 8 s o))

-- the octets up to n, as the parts of an AVP whose data goes from octet h to octet len
avp_parts : (s : List ℕ) (h len n : ℕ) → 8 ≤ h → h ≤ len → len ≤ n → n ≤ length s →
    take n s ≡ take 4 s ++ slice_index s 4 ∷ take 3 (drop 5 s) ++ take (h - 8) (drop 8 s) ++
    take (len - h) (drop h s) ++ take (n - len) (drop len s)
avp_parts s h len n above in_len in_n in_s =
    let front : take 8 s ≡ take 4 s ++ slice_index s 4 ∷ take 3 (drop 5 s) =
    take_cut 5 8 s (omega arith) ∙ rw (take_more s 4 0 (omega arith), append_assoc) refl in
    rw (take_cut len n s in_n, take_cut h len s in_len, take_cut 8 h s above, front) refl

-- the parts in front of the data, written as the fields that they are
fields_for : (s x4 x3 xv bytes padding t : List ℕ) (f h : ℕ) → x4 ≡ take 4 s → x3 ≡ take 3 (drop 5 s) →
    xv ≡ take (h - 8) (drop 8 s) → t ≡ take 4 s ++ f ∷ take 3 (drop 5 s) ++ take (h - 8) (drop 8 s) ++ bytes ++
    padding → t ≡ x4 ++ f ∷ x3 ++ xv ++ bytes ++ padding
fields_for s x4 x3 xv bytes padding t f h e4 e3 ev e = rw (e4, e3, ev) e

-- what was tested is spelled
pub spelled : (s : List ℕ) (vendor : Option ℕ) (len : ℕ) → Tested s vendor len →
    SpellsAvp (read_avp s vendor len) (take ((len + 3) / 4 * 4) s)
spelled s vendor len t =
    let h = avp_header_len vendor in
    let n = (len + 3) / 4 * 4 in
    let above : 8 ≤ h = header_above vendor in
    let in_len : h ≤ len = t.above in
    let in_n : len ≤ n = omega arith in
    let in_s : n ≤ length s = t.within in
    let data_len : length (take (len - h) (drop h s)) ≡ len - h =
    length-take-le (len - h) (drop h s) (omega (arith, length-drop h s)) in
    let len_is : h + length (take (len - h) (drop h s)) ≡ big_number 3 (drop 5 s) = omega (arith, data_len, t.len_is) in
    let code = be-big_number-4 s t.octets (omega arith) in
    let size = ap (λ k. be k 3) len_is ∙
    be-big_number-3 (drop 5 s) (octets_behind 5 s t.octets) (omega (arith, length-drop 5 s)) in
    let vendor_field = vendor_read s vendor t.octets (omega arith) t.vendor_is in
    record {
      flags = slice_index s 4;
      padding = take (n - len) (drop len s);
      whole = fields_for s _ _ _ _ _ _ (slice_index s 4) h code size vendor_field
          (avp_parts s h len n above in_len in_n in_s);
      vendor_bit = t.vendor_bit;
      mandatory_bit = refl;
      protected_bit = refl;
      least = rw (length-take-le (n - len) (drop len s) (omega (arith, length-drop len s))) (omega arith);
      aligned = rw (length-take-le n s in_s) (omega arith);
      code_fits = big_from-lt 0 4 s t.octets;
      length_fits = rw len_is (big_from-lt 0 3 (drop 5 s) (octets_behind 5 s t.octets));
      vendor_fits = vendor_below s vendor t.octets t.vendor_is;
    }
