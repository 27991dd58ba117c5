-- Digits that are read in runs.
use Rattle.std.proofs.Common.{◌≡◌, ◌<◌, ◌≤◌, ◌*◌, ◌+◌, ◌%◌, inl, inr, ℕ, Bool, true, false, Result, Ok, Err, List, [], ◌∷◌, ◌++◌}
use Rattle.std.proofs.Common.{length, take, map, cond, leb, refl, arith, ap, ◌∙◌}
use Rattle.std.proofs.lemmas.Bool.{leb-true, leb-false}
use Rattle.hex.specs.Hex.{decode_pairs}
use Rattle.hex.specs.declared.error.FromHexError.{FromHexError}
use Rattle.hex.proofs.Pairs.{cons_byte, decode_pairs-ok_pair, decode_pairs-err_pair, decode_start}
use Rattle.dm_text.specs.Hexadecimal.{digit_worth}
use Rattle.dm_text.specs.SideBySide.{bad_lanes, paired, read_behind, ReadUpTo}
use Rattle.dm_text.proofs.Decoded.{pair_reads, pair_fails, prepended}

read_behind-nil : (r : Result (List ℕ) FromHexError) → r ≡ read_behind [] r
read_behind-nil (Ok rest) = refl
read_behind-nil (Err e) = refl

cons-read_behind : (v : ℕ) (front : List ℕ) (r : Result (List ℕ) FromHexError) → cons_byte v (read_behind front r) ≡ read_behind (v ∷ front) r
cons-read_behind v front (Ok rest) = refl
cons-read_behind v front (Err e) = refl

-- no bit is set, so the first value is a digit's
pub first_good : (worth lanes : ℕ) → cond (leb 16 worth) 1 0 + 2 * lanes ≡ 0 → (worth ≤ 15) × (lanes ≡ 0)
first_good worth lanes = by (leb 16 worth) refl where
  by : (b : Bool) → leb 16 worth ≡ b → cond b 1 0 + 2 * lanes ≡ 0 → (worth ≤ 15) × (lanes ≡ 0)
  by true is none = absurd (omega (arith, none))
  by false is none = let few = leb-false 16 worth is in (omega (arith, few), omega (arith, none))

-- digits that are good, and those behind them
pub good_run : (digits rest : List ℕ) (i : ℕ) → length digits % 2 ≡ 0 → bad_lanes (map digit_worth digits) ≡ 0
    → decode_pairs i (digits ++ rest) ≡ read_behind (paired (map digit_worth digits)) (decode_pairs (i + length digits) rest)
good_run [] rest i even good = let same : i ≡ i + 0 = omega arith in ap (λ k. decode_pairs k rest) same ∙ read_behind-nil _
good_run (a ∷ []) rest i even good = absurd (omega (arith, even))
good_run (a ∷ b ∷ digits) rest i even good =
    let (few, more) = first_good (digit_worth a) _ good in
    let (fewer, others) = first_good (digit_worth b) _ more in
    let v : ℕ = digit_worth a * 16 + digit_worth b in
    let next : i + 2 + length digits ≡ i + length (a ∷ b ∷ digits) = omega arith in
    decode_pairs-ok_pair i a b v (digits ++ rest)
    (pair_reads a b i (digit_worth a) (digit_worth b) v refl refl few fewer (omega (arith, few, fewer)))
    ∙ ap (cons_byte v) (good_run digits rest (i + 2) (omega (arith, even)) others)
    ∙ cons-read_behind v (paired (map digit_worth digits)) _
    ∙ ap (λ k. read_behind (v ∷ paired (map digit_worth digits)) (decode_pairs k rest)) next

-- digits of which one is bad, and those behind them
pub bad_run : (digits rest : List ℕ) (i : ℕ) → length digits % 2 ≡ 0 → 0 < bad_lanes (map digit_worth digits)
    → (e : FromHexError) × (decode_pairs i (digits ++ rest) ≡ Err e)
bad_run [] rest i even bad = absurd (omega (arith, bad))
bad_run (a ∷ []) rest i even bad = absurd (omega (arith, even))
bad_run (a ∷ b ∷ digits) rest i even bad =
    by (λ more. bad_run digits rest (i + 2) (omega (arith, even)) more)
    (leb 16 (digit_worth a)) refl (leb 16 (digit_worth b)) refl bad where
      Fails : Type 0
      Fails = (e : FromHexError) × (decode_pairs i (a ∷ b ∷ digits ++ rest) ≡ Err e)

      Later : Type 0
      Later = 0 < bad_lanes (map digit_worth digits) → (e : FromHexError) × (decode_pairs (i + 2) (digits ++ rest) ≡ Err e)

      by : Later → (m : Bool) → leb 16 (digit_worth a) ≡ m → (n : Bool) → leb 16 (digit_worth b) ≡ n
          → 0 < cond m 1 0 + 2 * (cond n 1 0 + 2 * bad_lanes (map digit_worth digits)) → Fails
      by later true is n also bad =
          let more = leb-true 16 (digit_worth a) is in
          let no = pair_fails a b i _ _ refl refl (inl (omega (arith, more))) in
          (no.0, decode_pairs-err_pair i a b no.0 (digits ++ rest) no.1)
      by later false is true also bad =
          let more = leb-true 16 (digit_worth b) also in
          let no = pair_fails a b i _ _ refl refl (inr (omega (arith, more))) in
          (no.0, decode_pairs-err_pair i a b no.0 (digits ++ rest) no.1)
      by later false is false also bad =
          let few = leb-false 16 (digit_worth a) is in
          let fewer = leb-false 16 (digit_worth b) also in
          let v : ℕ = digit_worth a * 16 + digit_worth b in
          let no = later (omega (arith, bad)) in (
            no.0,
            decode_pairs-ok_pair i a b v (digits ++ rest)
                (pair_reads a b i (digit_worth a) (digit_worth b) v refl refl (omega (arith, few)) (omega (arith, fewer)) (omega (arith, few, fewer)))
                ∙ ap (cons_byte v) no.1,
          )

pub length-paired : (worths : List ℕ) → length worths % 2 ≡ 0 → 2 * length (paired worths) ≡ length worths
length-paired [] even = refl
length-paired (a ∷ []) even = absurd (omega (arith, even))
length-paired (a ∷ b ∷ worths) even = let more = length-paired worths (omega (arith, even)) in omega (arith, more)

pub read_none : (word octets : List ℕ) → ReadUpTo word octets 0
read_none word octets = decode_start word octets ∙ prepended (take 0 octets) _
