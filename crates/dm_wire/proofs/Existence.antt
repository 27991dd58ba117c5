-- Octets spell a list of AVPs or have a first bad one; they spell a message or have a fault.
use Rattle.std.proofs.Common.{◌≡◌, ◌≢◌, ◌<◌, ◌≤◌, ◌⊎◌, inl, inr, ℕ, zero, suc, ◌+◌, ◌-◌, ◌%◌, Bool, true, false, nat_eq, List, [], ◌∷◌, length, take, drop, slice_index, refl, sym, ◌∙◌, ap, arith, eqb-true, length-append}
use Rattle.std.proofs.lemmas.List.{take-append-drop, length-drop, drop-drop}
use Rattle.std.proofs.Math.Seq.{take-append_seam}
use Rattle.byteorder.specs.Endian.{big_number}
use Rattle.dm_wire.specs.declared.avp.Avp.{Avp}
use Rattle.dm_wire.specs.declared.message.Message.{Message}
use Rattle.dm_wire.specs.declared.fault.WireFault.{WireFault}
use Rattle.dm_wire.specs.declared.fault.WireFault.TheVariants.{TooShort, Version, Length, AvpLength}
use Rattle.dm_wire.specs.Members.{length_at, padded, avp_at, begins_with_avp}
use Rattle.dm_wire.specs.Spelling.{SpellsAvp, SpellsList, SpellsMessage}
use Rattle.dm_wire.specs.Whole.{header_in}
use Rattle.dm_wire.specs.Refusal.{BeginsWithNoAvp, IsBadAt, Refuses}
use Rattle.dm_wire.proofs.Cuts.{take-add}
use Rattle.dm_wire.proofs.Fronts.{octets_behind}
use Rattle.dm_wire.proofs.Headers.{IsTested, header_spelled}
use Rattle.dm_wire.proofs.Members.{begins, begins_test, begun, front_begins, moved}
use Rattle.dm_wire.proofs.Numbers.{IsOctets}
use Rattle.dm_wire.proofs.Reading.{bad_behind}

-- where the fields of a header don't fit, no AVP begins
none_begins : (s : List ℕ) → begins_with_avp s ≡ false → BeginsWithNoAvp s
none_begins s fails a first rest sp e =
    let n = length first in
    let front_is : take n s ≡ first = rw e (take-append_seam first rest) in
    let size : length s ≡ n + length rest = ap length e ∙ length-append first rest in
    let b = front_begins s a n (omega arith) (rw front_is sp) in
    let yes = begins_test s b.0 in
    cc

-- a bad AVP behind a good one
bad_after : (a : Avp) (s : List ℕ) (m o : ℕ) → m ≤ length s → SpellsAvp a (take m s) → IsBadAt 0 (drop m s) o →
    IsBadAt 0 s (m + o)
bad_after a s m o h sp bad =
    let size = length-drop m s in
    let below : o < length (drop m s) = bad.below in
    record {
      above = omega arith;
      below = omega arith;
      before = (a ∷ (bad.before).0, (take m s, take o (drop m s), take-add m o s, sp, (bad.before).1));
      bad = rw (drop-drop o m s) at bad.bad;
    }

abbrev IsTold : List ℕ → Type 0
IsTold s = ((l : List Avp) × SpellsList l s) ⊎ ((o : ℕ) × IsBadAt 0 s o)

told_after : (a : Avp) (s : List ℕ) (m : ℕ) → m ≤ length s → SpellsAvp a (take m s) → IsTold (drop m s) → IsTold s
told_after a s m h sp (inl l) = inl (a ∷ l.0, (take m s, drop m s, sym (take-append-drop m s), sp, l.1))
told_after a s m h sp (inr bad) = inr (m + bad.0, bad_after a s m bad.0 h sp bad.1)

list_told : (n : ℕ) (s : List ℕ) → length s ≤ n → IsOctets s → IsTold s
list_told n [] h i = inl ([], refl)
list_told zero (x ∷ s) h i = absurd (omega arith)
list_told (suc n) (x ∷ s) h i = by (begins_with_avp (x ∷ s)) refl (λ r. list_told n r) where
  by : (b : Bool) → begins_with_avp (x ∷ s) ≡ b → ((r : List ℕ) → length r ≤ n → IsOctets r → IsTold r) → IsTold (x ∷ s)
  by true e ih =
      let m = padded (length_at (x ∷ s)) in
      let b = begins (x ∷ s) e in
      let eight : 8 ≤ m = moved (x ∷ s) b in
      let size : length (drop m (x ∷ s)) ≡ length (x ∷ s) - m = length-drop m (x ∷ s) in
      told_after (avp_at (x ∷ s)) (x ∷ s) m b.within (begun (x ∷ s) i b)
      (ih (drop m (x ∷ s)) (omega arith) (octets_behind m (x ∷ s) i))
  by false e ih =
      inr (0, record { above = omega arith; below = omega arith; before = ([], refl); bad = none_begins (x ∷ s) e })

pub list_or_bad : (s : List ℕ) → IsOctets s → ((l : List Avp) × SpellsList l s) ⊎ ((o : ℕ) × IsBadAt 0 s o)
list_or_bad s i = list_told (length s) s (omega arith) i

below_or_not : (n k : ℕ) → (n < k) ⊎ (k ≤ n)
below_or_not n zero = inr (omega arith)
below_or_not zero (suc k) = inl (omega arith)
below_or_not (suc n) (suc k) = elim (below_or_not n k) [ inl h ↦ inl (omega arith) | inr h ↦ inr (omega arith) ]

same_or_not : (n k : ℕ) → (n ≡ k) ⊎ (n ≢ k)
same_or_not n k = by (nat_eq n k) refl where
  by : (b : Bool) → nat_eq n k ≡ b → (n ≡ k) ⊎ (n ≢ k)
  by true e = inl (eqb-true n k e)
  by false e = inr (λ z. let t = rw z at e in grind arith)

abbrev IsJudged : List ℕ → Type 0
IsJudged s = ((m : Message) × SpellsMessage m s) ⊎ ((f : WireFault) × Refuses s f)

framed : (s : List ℕ) → IsTested s → IsTold (drop 20 s) → IsJudged s
framed s t (inl l) =
    inl (
      record { header = header_in s; avps = l.0 },
      record {
        front = take 20 s;
        rest = drop 20 s;
        whole = sym (take-append-drop 20 s);
        header = header_spelled s t;
        avps = l.1;
      },
    )
framed s t (inr bad) = inr (AvpLength (20 + bad.0), (t.version, t.size, t.aligned, bad_behind 20 s bad.0 t.long bad.1))

pub message_or_fault : (s : List ℕ) → IsOctets s → ((m : Message) × SpellsMessage m s) ⊎ ((f : WireFault) × Refuses s f)
message_or_fault s i = short (below_or_not (length s) 20) where
  aligned : 20 ≤ length s → slice_index s 0 ≡ 1 → big_number 3 (drop 1 s) ≡ length s →
      (length s % 4 ≡ 0) ⊎ (length s % 4 ≢ 0) → IsJudged s
  aligned long one size (inl four) =
      framed s (record { octets = i; long = long; version = one; size = size; aligned = four })
      (list_or_bad (drop 20 s) (octets_behind 20 s i))
  aligned long one size (inr other) = inr (Length, (long, one, inr other))

  sized : 20 ≤ length s → slice_index s 0 ≡ 1 →
      (big_number 3 (drop 1 s) ≡ length s) ⊎ (big_number 3 (drop 1 s) ≢ length s) → IsJudged s
  sized long one (inl size) = aligned long one size (same_or_not (length s % 4) 0)
  sized long one (inr other) = inr (Length, (long, one, inl other))

  versioned : 20 ≤ length s → (slice_index s 0 ≡ 1) ⊎ (slice_index s 0 ≢ 1) → IsJudged s
  versioned long (inl one) = sized long one (same_or_not (big_number 3 (drop 1 s)) (length s))
  versioned long (inr other) = inr (Version, (long, other))

  short : (length s < 20) ⊎ (20 ≤ length s) → IsJudged s
  short (inl h) = inr (TooShort, h)
  short (inr long) = versioned long (same_or_not (slice_index s 0) 1)
