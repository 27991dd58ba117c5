-- Canonical spellings spell what they are made of.
use Rattle.std.proofs.Common.{◌≡◌, ◌<◌, ◌≤◌, ℕ, zero, suc, ◌+◌, ◌-◌, ◌*◌, ◌/◌, ◌%◌, ◌^◌, Bool, true, false, IfSome, is_some, List, [], ◌∷◌, ◌++◌, length, get_or, take, refl, sym, ◌∙◌, ap, arith, append_assoc, append-nil, length-append}
use Rattle.std.proofs.lemmas.List.{length-replicate, take_more}
use Rattle.std.proofs.lemmas.Grind.{flat_map-append}
use Rattle.std.specs.List.{flat_map}
use Rattle.dm_wire.specs.declared.avp.Avp.{Avp}
use Rattle.dm_wire.specs.Spelling.{be, is_bit_set, avp_length, vendor_octets, SpellsAvp, SpellsList}
use Rattle.dm_wire.specs.Canonical.{worth, avp_flags, zeros, canonical_avp, canonical_list}
use Rattle.dm_wire.proofs.Fronts.{header_above}
use Rattle.dm_wire.proofs.Lists.{list_push}
use Rattle.dm_wire.proofs.Spellings.{front, size_of}

-- the bits of a flag octet are those that it was made of
avp_bits : (v m p : Bool) →
    (is_bit_set (worth v 128 + worth m 64 + worth p 32) 128 ≡ v) × (is_bit_set (worth v 128 + worth m 64 + worth p 32) 64 ≡ m) ×
    (is_bit_set (worth v 128 + worth m 64 + worth p 32) 32 ≡ p)
avp_bits true true true = (refl, refl, refl)
avp_bits true true false = (refl, refl, refl)
avp_bits true false true = (refl, refl, refl)
avp_bits true false false = (refl, refl, refl)
avp_bits false true true = (refl, refl, refl)
avp_bits false true false = (refl, refl, refl)
avp_bits false false true = (refl, refl, refl)
avp_bits false false false = (refl, refl, refl)

-- the octets of a canonical spelling, padding included
pub canonical_size : (a : Avp) → length (canonical_avp a) ≡ (avp_length a + 3) / 4 * 4
canonical_size a =
    let n = avp_length a in
    let padding = length-replicate {A = ℕ} ((4 - n % 4) % 4) 0 in
    let size = size_of a.code (avp_flags a) n a.vendor a.bytes (zeros n) in
    size ∙ omega (arith, padding)

-- every spelling of an AVP has as many octets
pub spelled_size : (a : Avp) (s : List ℕ) → SpellsAvp a s → length s ≡ length (canonical_avp a)
spelled_size a s sp =
    let f = front a s [] (s ++ []) sp refl in
    let size = canonical_size a in
    omega (arith, f.least, f.most, f.aligned, size)

-- where the fields have room, the canonical spelling spells the AVP
pub avp_spelled : (a : Avp) → a.code < 256 ^ 4 → avp_length a < 256 ^ 3 → IfSome a.vendor (λ v. v < 256 ^ 4) →
    SpellsAvp a (canonical_avp a)
avp_spelled a code len vendor =
    let bits = avp_bits (is_some a.vendor) a.mandatory a.protected in
    let n = avp_length a in
    record {
      flags = avp_flags a;
      padding = zeros n;
      whole = refl;
      vendor_bit = bits.0;
      mandatory_bit = bits.1;
      protected_bit = bits.2;
      least = rw (length-replicate {A = ℕ} ((4 - n % 4) % 4) 0) (omega arith);
      aligned = rw (canonical_size a) (omega arith);
      code_fits = code;
      length_fits = len;
      vendor_fits = vendor;
    }

-- every spelling of a list has as many octets as the canonical one
pub list_size : (l : List Avp) (s : List ℕ) → SpellsList l s → length s ≡ length (canonical_list l)
list_size [] s e = ap length e
list_size (a ∷ l) s h =
    let first = spelled_size a h.0 h.3 in
    let rest = list_size l h.1 h.4 in
    ap length h.2 ∙
    omega (arith, length-append h.0 h.1, length-append (canonical_avp a) (canonical_list l), first, rest)

flat_map_more : (f : Avp → List ℕ) (l : List Avp) (i : ℕ) (a : Avp) → i < length l → a ≡ get_or l i a →
    flat_map f (take (i + 1) l) ≡ flat_map f (take i l) ++ f a
flat_map_more f l i a h e =
    ap (flat_map f) (take_more l i a h) ∙ flat_map-append f (take i l) (get_or l i a ∷ []) ∙ rw (← e, append-nil) refl

-- the octets of one AVP more
pub list_more : (l : List Avp) (i : ℕ) (a : Avp) → i < length l → a ≡ get_or l i a →
    canonical_list (take (i + 1) l) ≡ canonical_list (take i l) ++ canonical_avp a
list_more l i a h e = flat_map_more canonical_avp l i a h e

-- one AVP more is spelled behind a list
pub list_more_spelled : (l : List Avp) (i : ℕ) (a : Avp) → i < length l → a ≡ get_or l i a →
    SpellsList (take i l) (canonical_list (take i l)) → SpellsAvp a (canonical_avp a) →
    SpellsList (take (i + 1) l) (canonical_list (take (i + 1) l))
list_more_spelled l i a h e sl sa =
    let more : take (i + 1) l ≡ take i l ++ a ∷ [] = take_more l i a h ∙ ap (λ b. take i l ++ b ∷ []) (sym e) in
    rw (list_more l i a h e, more) (list_push (take i l) a (canonical_list (take i l)) (canonical_avp a) sl sa)

-- each AVP takes at least 8 octets
pub list_least : (l : List Avp) → 8 * length l ≤ length (canonical_list l)
list_least [] = omega arith
list_least (a ∷ l) =
    let behind = list_least l in
    let size = canonical_size a in
    let above = header_above a.vendor in
    omega (arith, length-append (canonical_avp a) (canonical_list l), size, above, behind)

-- and at most 16777216, where it has a spelling
pub list_most : (l : List Avp) (s : List ℕ) → SpellsList l s → length (canonical_list l) ≤ 16777216 * length l
list_most [] s sp = omega arith
list_most (a ∷ l) s sp =
    let behind = list_most l sp.1 sp.4 in
    let size = canonical_size a in
    let fits : avp_length a < 256 ^ 3 = (sp.3).length_fits in
    omega (arith, length-append (canonical_avp a) (canonical_list l), size, behind)

-- one of two counts that add up to some
pub either : {P : Type 0} (n k : ℕ) → 0 < n + k → (0 < n → P) → (0 < k → P) → P
either zero k h f g = g (omega arith)
either (suc n) k h f g = f (omega arith)

-- header, Vendor-ID, data and padding, appended in turn
pub avp_put : (a : Avp) (n : ℕ) (o0 o1 o2 o3 o4 header bytes : List ℕ) → n ≡ avp_length a →
    header ≡ be a.code 4 ++ avp_flags a ∷ be n 3 → bytes ≡ a.bytes
    → o1 ≡ o0 ++ header → o2 ≡ o1 ++ vendor_octets a.vendor → o3 ≡ o2 ++ bytes → o4 ≡ o3 ++ zeros n →
    o4 ≡ o0 ++ canonical_avp a
avp_put a n o0 o1 o2 o3 o4 header bytes en eh ed e1 e2 e3 e4 = e4 ∙ rw (e3, e2, e1, ed, eh, en) (simp append_assoc)
