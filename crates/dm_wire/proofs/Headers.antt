-- The header of a message, field by field.
use Rattle.std.proofs.Common.{◌≡◌, ◌<◌, ◌≤◌, ℕ, ◌%◌, ◌^◌, List, ◌∷◌, ◌++◌, length, take, drop, slice_index, refl, sym, ◌∙◌, ap, arith, append_assoc}
use Rattle.std.proofs.lemmas.List.{take_more, length-drop}
use Rattle.byteorder.specs.Endian.{big_number}
use Rattle.byteorder.specs.Numbers.{big_from-lt}
use Rattle.dm_wire.specs.Spelling.{be, SpellsHeader}
use Rattle.dm_wire.specs.Whole.{header_in}
use Rattle.dm_wire.proofs.Numbers.{IsOctets, be-big_number-3, be-big_number-4}
use Rattle.dm_wire.proofs.Cuts.{take_cut}
use Rattle.dm_wire.proofs.Fronts.{octets_behind}

-- what a reader has tested where it takes a header
pub record IsTested (s : List ℕ) : Type 0 where
  pub octets : IsOctets s
  pub long : 20 ≤ length s
  pub version : slice_index s 0 ≡ 1
  pub size : big_number 3 (drop 1 s) ≡ length s
  pub aligned : length s % 4 ≡ 0

-- the first 20 octets, as the parts of a header
header_parts : (s : List ℕ) → 20 ≤ length s →
    take 20 s ≡ slice_index s 0 ∷ take 3 (drop 1 s) ++ slice_index s 4 ∷ take 3 (drop 5 s) ++ take 4 (drop 8 s) ++
    take 4 (drop 12 s) ++ take 4 (drop 16 s)
header_parts s h =
    let one : take 4 s ≡ slice_index s 0 ∷ take 3 (drop 1 s) =
    take_cut 1 4 s (omega arith) ∙ rw (take_more s 0 0 (omega arith)) refl in
    let two : take 8 s ≡ take 4 s ++ slice_index s 4 ∷ take 3 (drop 5 s) =
    take_cut 5 8 s (omega arith) ∙ rw (take_more s 4 0 (omega arith), append_assoc) refl in
    rw (take_cut 16 20 s (omega arith), take_cut 12 16 s (omega arith), take_cut 8 12 s (omega arith), two, one) refl

-- the parts, written as the fields that they are
fields_for : (t x1 y1 x5 y5 x8 y8 x12 y12 x16 y16 : List ℕ) (v f : ℕ) → v ≡ 1 → x1 ≡ y1 → x5 ≡ y5 → x8 ≡ y8 →
    x12 ≡ y12 → x16 ≡ y16 → t ≡ v ∷ y1 ++ f ∷ y5 ++ y8 ++ y12 ++ y16 → t ≡ 1 ∷ x1 ++ f ∷ x5 ++ x8 ++ x12 ++ x16
fields_for t x1 y1 x5 y5 x8 y8 x12 y12 x16 y16 v f ev e1 e5 e8 e12 e16 e = rw (e1, e5, e8, e12, e16, ← ev) e

-- what was tested is spelled
pub header_spelled : (s : List ℕ) → IsTested s → SpellsHeader (header_in s) (length s) (take 20 s)
header_spelled s t =
    let long : 20 ≤ length s = t.long in
    let behind : (n : ℕ) → IsOctets (drop n s) = λ n. octets_behind n s t.octets in
    let size = ap (λ k. be k 3) (sym t.size) ∙ be-big_number-3 (drop 1 s) (behind 1) (omega (arith, length-drop 1 s)) in
    let command = be-big_number-3 (drop 5 s) (behind 5) (omega (arith, length-drop 5 s)) in
    let application = be-big_number-4 (drop 8 s) (behind 8) (omega (arith, length-drop 8 s)) in
    let hop = be-big_number-4 (drop 12 s) (behind 12) (omega (arith, length-drop 12 s)) in
    let end = be-big_number-4 (drop 16 s) (behind 16) (omega (arith, length-drop 16 s)) in
    let below : big_number 3 (drop 1 s) < 256 ^ 3 = big_from-lt 0 3 (drop 1 s) (behind 1) in
    record {
      flags = slice_index s 4;
      whole = fields_for _ _ _ _ _ _ _ _ _ _ _ (slice_index s 0) (slice_index s 4) t.version size command application
          hop end (header_parts s long);
      request_bit = refl;
      proxiable_bit = refl;
      error_bit = refl;
      retransmit_bit = refl;
      size_fits = omega (arith, t.size, t.aligned);
      command_fits = big_from-lt 0 3 (drop 5 s) (behind 5);
      application_fits = big_from-lt 0 4 (drop 8 s) (behind 8);
      hop_fits = big_from-lt 0 4 (drop 12 s) (behind 12);
      end_fits = big_from-lt 0 4 (drop 16 s) (behind 16);
    }
