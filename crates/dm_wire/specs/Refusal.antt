-- When octets are no message or no list of AVPs, and for what fault (RFC 6733, 7.1.5 and 7.2).
use Rattle.std.specs.Prelude.{◌≡◌, ◌≢◌, ℕ, ◌%◌, ◌<◌, ◌≤◌, ◌⊎◌, List, ◌++◌, length, take, drop, slice_index}
use Rattle.byteorder.specs.Endian.{big_number}
use Rattle.dm_wire.specs.declared.avp.Avp.{Avp}
use Rattle.dm_wire.specs.declared.fault.WireFault.{WireFault}
use Rattle.dm_wire.specs.declared.fault.WireFault.TheVariants.{TooShort, Version, Length, AvpLength, TooLong, NoMemory}
use Rattle.dm_wire.specs.Spelling.{SpellsAvp, SpellsList}

-- fewer octets than a header has (5015)
abbrev pub IsTooShort : List ℕ → Type 0
IsTooShort s = length s < 20

-- a whole header, but its first octet isn't 1 (5011)
abbrev pub IsOtherVersion : List ℕ → Type 0
IsOtherVersion s = (20 ≤ length s) × (slice_index s 0 ≢ 1)

-- a whole header of version 1, but the Message Length isn't the size, or the size is no multiple of 4 (5015)
abbrev pub IsOtherLength : List ℕ → Type 0
IsOtherLength s =
    (20 ≤ length s) × (slice_index s 0 ≡ 1) × ((big_number 3 (drop 1 s) ≢ length s) ⊎ (length s % 4 ≢ 0))

-- no spelling of an AVP is a prefix of s
abbrev pub BeginsWithNoAvp : List ℕ → Type 0
BeginsWithNoAvp s = (a : Avp) (first rest : List ℕ) → SpellsAvp a first → (s ≡ first ++ rest) → ⊥

-- the first bad AVP behind octet n begins at octet o (5014): up to o there are AVPs, at o none begins
pub record IsBadAt (n : ℕ) (s : List ℕ) (o : ℕ) : Type 0 where
  pub above : n ≤ o
  pub below : o < length s
  pub before : (l : List Avp) × SpellsList l (drop n (take o s))
  pub bad : BeginsWithNoAvp (drop o s)

-- a whole header of version 1 and the right length, but a bad AVP at octet o
abbrev pub IsBadMessageAt : List ℕ → ℕ → Type 0
IsBadMessageAt s o =
    (slice_index s 0 ≡ 1) × (big_number 3 (drop 1 s) ≡ length s) × (length s % 4 ≡ 0) × IsBadAt 20 s o

-- the octets are no message for this fault, memory aside
abbrev pub Refuses : List ℕ → WireFault → Type 0
Refuses s TooShort = IsTooShort s
Refuses s Version = IsOtherVersion s
Refuses s Length = IsOtherLength s
Refuses s (AvpLength o) = IsBadMessageAt s o
Refuses s TooLong = ⊥
Refuses s NoMemory = ⊥
