-- The members of octets, one AVP at a time.
use Rattle.std.proofs.Common.{◌≡◌, ◌<◌, ◌≤◌, ◌⊎◌, inl, inr, ℕ, zero, suc, ◌+◌, ◌-◌, ◌%◌, Bool, true, false, leb, if◌then◌else◌, Option, None, Some, IfSome, IfNone, is_some, option_map, List, [], ◌∷◌, ◌++◌, length, take, drop, slice_index, refl, sym, ◌∙◌, ap, arith, length-append}
use Rattle.std.proofs.lemmas.Bool.{leb-true, and_parts}
use Rattle.std.proofs.lemmas.List.{length-drop, take-append-drop, length-take-le, drop_all}
use Rattle.std.proofs.Math.Seq.{take-append_seam, drop-append_seam}
use Rattle.byteorder.specs.Endian.{big_number}
use Rattle.dm_wire.specs.declared.avp.Avp.{Avp}
use Rattle.dm_wire.specs.Spelling.{is_bit_set, avp_header_len, SpellsAvp, SpellsList}
use Rattle.dm_wire.specs.Refusal.{BeginsWithNoAvp}
use Rattle.dm_wire.proofs.Numbers.{IsOctets}
use Rattle.dm_wire.proofs.Fronts.{spelled, header_above, octets_behind}
use Rattle.dm_wire.proofs.Spellings.{front, same_made}
use Rattle.dm_wire.specs.declared.avp_ref.AvpRef.{AvpRef}
use Rattle.dm_wire.specs.Borrowed.{avp_of}
use Rattle.dm_wire.specs.declared.avp_extent.Extent.{Extent}
use Rattle.dm_wire.specs.Extents.{IsExtent}
use Rattle.dm_wire.specs.Members.{vendor_at, length_at, padded, avp_at, begins_with_avp, members_within, members}

-- an AVP begins s, as numbers
pub record Begins (s : List ℕ) : Type 0 where
  pub long : 8 ≤ length s
  pub above : avp_header_len (vendor_at s) ≤ length_at s
  pub within : padded (length_at s) ≤ length s

pub begins : (s : List ℕ) → begins_with_avp s ≡ true → Begins s
begins s h =
    let (both, within) = and_parts _ _ h in
    let (long, above) = and_parts _ _ both in
    record { long = leb-true _ _ long; above = leb-true _ _ above; within = leb-true _ _ within }

le_test : (a b : ℕ) → a ≤ b → leb a b ≡ true
le_test a b h = by (leb a b) refl where
  by : (t : Bool) → leb a b ≡ t → leb a b ≡ true
  by true e = e
  by false e = grind arith

pub begins_test : (s : List ℕ) → Begins s → begins_with_avp s ≡ true
begins_test s b =
    let long = le_test 8 (length s) b.long in
    let above = le_test (avp_header_len (vendor_at s)) (length_at s) b.above in
    let within = le_test (padded (length_at s)) (length s) b.within in
    rw (long, above, within) refl

same_bit : (b : Bool) (n : ℕ) → b ≡ is_some (if b then Some n else None)
same_bit true n = refl
same_bit false n = refl

same_vendor : (b : Bool) (n : ℕ) → IfSome (if b then Some n else None) (λ v. v ≡ n)
same_vendor true n = refl
same_vendor false n = tt

-- what begins there is spelled there
pub begun : (s : List ℕ) → IsOctets s → Begins s → SpellsAvp (avp_at s) (take (padded (length_at s)) s)
begun s o b =
    spelled s (vendor_at s) (length_at s) (record {
      octets = o;
      vendor_bit = same_bit (is_bit_set (slice_index s 4) 128) (big_number 4 (drop 8 s));
      len_is = refl;
      vendor_is = same_vendor (is_bit_set (slice_index s 4) 128) (big_number 4 (drop 8 s));
      above = b.above;
      within = b.within;
    })

vendor_is : (b : Bool) (n : ℕ) (v : Option ℕ) → b ≡ is_some v → IfSome v (λ x. x ≡ n) → (if b then Some n else None) ≡ v
vendor_is b n None e h = rw e refl
vendor_is b n (Some x) e h = rw e (ap Some (sym h))

-- the AVP of an extent begins there and is spelled up to its end
pub extent_spelled : (x : Extent) (s : List ℕ) → IsOctets s → IsExtent x s → SpellsAvp (avp_at s) (take x.size s)
extent_spelled x s o e =
    let header = e.header_is in
    let length = e.length_is in
    let size = e.size_is in
    let long = e.long in
    let above = e.above in
    let padded = e.padded in
    let within = e.within in
    rw size (begun s o (record { long = omega arith; above = omega arith; within = omega arith }))

-- what is spelled at the front begins there
pub front_begins : (s : List ℕ) (a : Avp) (n : ℕ) → n ≤ length s → SpellsAvp a (take n s) →
    Begins s × (padded (length_at s) ≡ n)
front_begins s a n in_s sp =
    let f = front a (take n s) (drop n s) s sp (sym (take-append-drop n s)) in
    let size : length (take n s) ≡ n = length-take-le n s in_s in
    let vendor = vendor_is (is_bit_set (slice_index s 4) 128) (big_number 4 (drop 8 s)) a.vendor f.vendor_bit f.vendor in
    let header : avp_header_len (vendor_at s) ≡ avp_header_len a.vendor = ap avp_header_len vendor in
    let eight : 8 ≤ avp_header_len a.vendor = header_above a.vendor in
    let len : avp_header_len a.vendor + length a.bytes ≡ length_at s = f.len in
    let least : avp_header_len a.vendor + length a.bytes ≤ n = rw size at f.least in
    let most : n < avp_header_len a.vendor + length a.bytes + 4 = rw size at f.most in
    let aligned : n % 4 ≡ 0 = rw size at f.aligned in
    let pad : padded (length_at s) ≡ n = omega (arith, len, least, most, aligned) in
    (record { long = omega arith; above = omega (arith, header, len); within = rw pad in_s }, pad)

pub moved : (s : List ℕ) → Begins s → 8 ≤ padded (length_at s)
moved s b = let eight = header_above (vendor_at s) in let above = b.above in omega arith

-- enough is enough
pub enough : (n m : ℕ) (s : List ℕ) → length s ≤ n → length s ≤ m → members_within n s ≡ members_within m s
enough zero zero [] h k = refl
enough zero (suc m) [] h k = refl
enough (suc n) zero [] h k = refl
enough (suc n) (suc m) [] h k = refl
enough zero m (x ∷ s) h k = absurd (omega arith)
enough (suc n) zero (x ∷ s) h k = absurd (omega arith)
enough (suc n) (suc m) (x ∷ s) h k = by (λ r. enough n m r) (begins_with_avp (x ∷ s)) refl where
  by : ((r : List ℕ) → length r ≤ n → length r ≤ m → members_within n r ≡ members_within m r) → (b : Bool) →
      begins_with_avp (x ∷ s) ≡ b → members_within (suc n) (x ∷ s) ≡ members_within (suc m) (x ∷ s)
  by shorter true e =
      let rest = drop (padded (length_at (x ∷ s))) (x ∷ s) in
      let b = begins (x ∷ s) e in
      let behind : length rest ≡ length (x ∷ s) - padded (length_at (x ∷ s)) = length-drop (padded (length_at (x ∷ s)))
      (x ∷ s) in
      let eight : 8 ≤ padded (length_at (x ∷ s)) = moved (x ∷ s) b in
      let same : members_within n rest ≡ members_within m rest = shorter rest (omega arith) (omega arith) in
      rw e (ap (option_map (λ l. avp_at (x ∷ s) ∷ l)) same)
  by shorter false e = rw e refl

pub members_nil : members [] ≡ Some []
unfolding members
members_nil = refl

-- where an AVP begins, the members are that AVP and the members behind it
pub members_begun : (s : List ℕ) → Begins s →
    members s ≡ option_map (λ l. avp_at s ∷ l) (members (drop (padded (length_at s)) s))
unfolding members
members_begun [] b = absurd (let h = b.long in omega arith)
members_begun (x ∷ s) b =
    let rest = drop (padded (length_at (x ∷ s))) (x ∷ s) in
    let behind : length rest ≡ length (x ∷ s) - padded (length_at (x ∷ s)) = length-drop (padded (length_at (x ∷ s)))
    (x ∷ s) in
    let eight : 8 ≤ padded (length_at (x ∷ s)) = moved (x ∷ s) b in
    let same : members_within (length s) rest ≡ members_within (length rest) rest =
    enough (length s) (length rest) rest (omega arith) (omega arith) in
    rw (begins_test (x ∷ s) b) (ap (option_map (λ l. avp_at (x ∷ s) ∷ l)) same)

-- where none begins, there are none
pub members_stop : (s : List ℕ) → 0 < length s → begins_with_avp s ≡ false → members s ≡ None
unfolding members
members_stop [] h e = absurd (omega arith)
members_stop (x ∷ s) h e = rw e refl

-- what begins there is what is spelled there
front_is : (s : List ℕ) (a : Avp) (n : ℕ) → n ≤ length s → SpellsAvp a (take n s) → avp_at s ≡ a
front_is s a n in_s sp =
    let f = front a (take n s) (drop n s) s sp (sym (take-append-drop n s)) in
    let vendor = vendor_is (is_bit_set (slice_index s 4) 128) (big_number 4 (drop 8 s)) a.vendor f.vendor_bit f.vendor in
    let header : avp_header_len (vendor_at s) ≡ avp_header_len a.vendor = ap avp_header_len vendor in
    let len : avp_header_len a.vendor + length a.bytes ≡ length_at s = f.len in
    let size : length_at s - avp_header_len (vendor_at s) ≡ length a.bytes = omega (arith, header, len) in
    let bytes : take (length_at s - avp_header_len (vendor_at s)) (drop (avp_header_len (vendor_at s)) s) ≡
    a.bytes = rw (size, header) (sym f.bytes) in
    same_made _ _ _ _ _ _ _ _ _ _ (sym f.code) vendor f.mandatory_bit f.protected_bit bytes

-- the members of octets at whose front an AVP is spelled
pub member_found : (s : List ℕ) (a : Avp) (n : ℕ) → n ≤ length s → SpellsAvp a (take n s) →
    members s ≡ option_map (λ l. a ∷ l) (members (drop n s))
member_found s a n in_s sp =
    let (b, pad) = front_begins s a n in_s sp in
    let m = padded (length_at s) in
    members_begun s b ∙ ap (λ x. option_map (λ l. x ∷ l) (members (drop m s))) (front_is s a n in_s sp)
    ∙ ap (λ k. option_map (λ l. a ∷ l) (members (drop k s))) pad

-- the members of octets at whose front no AVP is spelled
pub no_member : (s : List ℕ) → IsOctets s → BeginsWithNoAvp s → (s ≡ []) ⊎ (members s ≡ None)
no_member [] o none = inl refl
no_member (x ∷ s) o none = inr (by (begins_with_avp (x ∷ s)) refl) where
  by : (b : Bool) → begins_with_avp (x ∷ s) ≡ b → members (x ∷ s) ≡ None
  by true e =
      let m = padded (length_at (x ∷ s)) in
      absurd (none (avp_at (x ∷ s)) (take m (x ∷ s)) (drop m (x ∷ s)) (begun (x ∷ s) o (begins (x ∷ s) e))
      (sym (take-append-drop m (x ∷ s))))
  by false e = members_stop (x ∷ s) (omega arith) e

-- the same of an answer
pub found_member : (s : List ℕ) (r : Option (AvpRef × ℕ)) → IsOctets s → IfSome r (λ read. read.1 ≤ length s) →
    IfSome r (λ read. SpellsAvp (avp_of read.0) (take read.1 s)) →
    IfSome r (λ read. members s ≡ option_map (λ l. avp_of read.0 ∷ l) (members (drop read.1 s)))
found_member s None o w f = tt
found_member s (Some x) o w f = member_found s (avp_of x.0) x.1 w f

pub none_member : (s : List ℕ) (r : Option (AvpRef × ℕ)) → IsOctets s → IfNone r (BeginsWithNoAvp s) →
    IfNone r ((s ≡ []) ⊎ (members s ≡ None))
none_member s None o none = no_member s o none
none_member s (Some x) o none = tt

-- behind the end there are no members
pub members_end : (s : List ℕ) (o : ℕ) → length s ≤ o → members (drop o s) ≡ Some []
members_end s o h = ap members (drop_all o s h) ∙ members_nil

-- octets without a first member have no members
pub nothing_listed : (s : List ℕ) (l : List Avp) → (s ≡ []) ⊎ (members s ≡ None) → members s ≡ Some l → l ≡ []
nothing_listed s l (inl e) h = let nil : members s ≡ Some [] = ap members e ∙ members_nil in cc
nothing_listed s l (inr e) h = cc

cons_of : (a : Avp) (o : Option (List Avp)) (l : List Avp) → option_map (λ k. a ∷ k) o ≡ Some l →
    (k : List Avp) × (o ≡ Some k) × (a ∷ k ≡ l)
cons_of a None l e = absurd (cc)
cons_of a (Some k) l e = (k, refl, (cc))

spelled_cons : (a : Avp) (k l : List Avp) (first rest s : List ℕ) → a ∷ k ≡ l → s ≡ first ++ rest → SpellsAvp a first →
    SpellsList k rest → SpellsList l s
spelled_cons a k l first rest s is e sp h = rw (← is) (first, rest, e, sp, h)

-- the members of octets are spelled there
pub members_spelled : (n : ℕ) (s : List ℕ) (l : List Avp) → length s ≤ n → IsOctets s → members s ≡ Some l →
    SpellsList l s
members_spelled n [] l h o e = let m : Some [] ≡ Some l = sym members_nil ∙ e in let nil : [] ≡ l = cc in
    rw (← nil) refl
members_spelled zero (x ∷ s) l h o e = absurd (omega arith)
members_spelled (suc n) (x ∷ s) l h o e = by (begins_with_avp (x ∷ s)) refl (λ r k. members_spelled n r k) where
  by : (b : Bool) → begins_with_avp (x ∷ s) ≡ b →
      ((r : List ℕ) (k : List Avp) → length r ≤ n → IsOctets r → members r ≡ Some k → SpellsList k r) →
      SpellsList l (x ∷ s)
  by true t ih =
      let m = padded (length_at (x ∷ s)) in
      let b = begins (x ∷ s) t in
      let eight : 8 ≤ m = moved (x ∷ s) b in
      let size : length (drop m (x ∷ s)) ≡ length (x ∷ s) - m = length-drop m (x ∷ s) in
      let (k, some, is) = cons_of (avp_at (x ∷ s)) (members (drop m (x ∷ s))) l (sym (members_begun (x ∷ s) b) ∙ e) in
      spelled_cons (avp_at (x ∷ s)) k l (take m (x ∷ s)) (drop m (x ∷ s)) (x ∷ s) is (sym (take-append-drop m (x ∷ s)))
      (begun (x ∷ s) o b)
      (ih (drop m (x ∷ s)) k (omega arith) (octets_behind m (x ∷ s) o) some)
  by false t ih = absurd (let none : members (x ∷ s) ≡ None = members_stop (x ∷ s) (omega arith) t in cc)

-- what is spelled are the members
pub spelled_members : (l : List Avp) (s : List ℕ) → SpellsList l s → members s ≡ Some l
spelled_members [] s e = ap members e ∙ members_nil
spelled_members (a ∷ l) s h =
    let n = length h.0 in
    let front_is : take n s ≡ h.0 = rw (h.2) (take-append_seam h.0 h.1) in
    let rest_is : drop n s ≡ h.1 = rw (h.2) (drop-append_seam h.0 h.1) in
    let within : n ≤ length s = (let whole = ap length (h.2) ∙ length-append h.0 h.1 in omega arith) in
    let spells : SpellsAvp a (take n s) = rw front_is (h.3) in
    let behind : SpellsList l (drop n s) = rw rest_is (h.4) in
    member_found s a n within spells ∙ ap (option_map (λ k. a ∷ k)) (spelled_members l (drop n s) behind)
