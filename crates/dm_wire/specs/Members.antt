-- The AVPs that octets spell, as an answer (RFC 6733, 4.1 and 4.4).
use Rattle.std.specs.Prelude.{◌≡◌, ◌↔◌, ℕ, zero, suc, ◌+◌, ◌-◌, ◌*◌, ◌/◌, Bool, ◌&&◌, nat_le, Option, None}
use Rattle.std.specs.Prelude.{Some, option_map, List, [], ◌∷◌, length, take, drop, slice_index, if◌then◌else◌}
use Rattle.byteorder.specs.Endian.{big_number}
use Rattle.dm_wire.specs.declared.avp.Avp.{Avp}
use Rattle.dm_wire.specs.Spelling.{is_bit_set, avp_header_len, SpellsList}
use Rattle.dm_wire.specs.Octets.{AreOctets}

-- the Vendor-ID field, where the V bit is set
abbrev pub vendor_at : List ℕ → Option ℕ
vendor_at s = if is_bit_set (slice_index s 4) 128 then Some (big_number 4 (drop 8 s)) else None

-- the AVP Length field
abbrev pub length_at : List ℕ → ℕ
length_at s = big_number 3 (drop 5 s)

-- the octets of an AVP of this Length, with its padding
abbrev pub padded : ℕ → ℕ
padded len = (len + 3) / 4 * 4

-- the AVP that s begins with
abbrev pub avp_at : List ℕ → Avp
avp_at s =
    record {
      code = big_number 4 s;
      vendor = vendor_at s;
      mandatory = is_bit_set (slice_index s 4) 64;
      protected = is_bit_set (slice_index s 4) 32;
      bytes = take (length_at s - avp_header_len (vendor_at s)) (drop (avp_header_len (vendor_at s)) s);
    }

-- s begins with an AVP: its header and its padded Length lie within s
abbrev pub begins_with_avp : List ℕ → Bool
begins_with_avp s = nat_le 8 (length s) && nat_le (avp_header_len (vendor_at s)) (length_at s) &&
    nat_le (padded (length_at s)) (length s)

-- at most n AVPs
abbrev pub members_within : ℕ → List ℕ → Option (List Avp)
members_within n [] = Some []
members_within zero (x ∷ s) = None
members_within (suc n) (x ∷ s) =
    if begins_with_avp (x ∷ s) then
    option_map (λ l. avp_at (x ∷ s) ∷ l) (members_within n (drop (padded (length_at (x ∷ s))) (x ∷ s))) else None

-- the AVPs of which s is the spellings, one after the other, where it is
unfoldable pub members : List ℕ → Option (List Avp)
members s = members_within (length s) s

-- octets have just the members that they spell
abbrev pub MembersSpell : Type 0
MembersSpell = (s : List ℕ) (l : List Avp) → AreOctets s → (members s ≡ Some l) ↔ SpellsList l s

-- and those that are spelled are the members, even where a number of the list is no octet
abbrev pub SpelledAreMembers : Type 0
SpelledAreMembers = (s : List ℕ) (l : List Avp) → SpellsList l s → members s ≡ Some l
