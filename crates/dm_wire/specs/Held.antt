-- Messages held as they came, with the places of their AVPs (RFC 6733, 3).
use Rattle.std.specs.Prelude.{◌≡◌, ◌<◌, ℕ, Some, List, length, get_or, drop}
use Rattle.dm_wire.specs.declared.avp.Avp.{Avp}
use Rattle.dm_wire.specs.declared.message.Header.{Header}
use Rattle.dm_wire.specs.Members.{members}
use Rattle.dm_wire.specs.Spelling.{SpellsMessage}

-- one place for each AVP of the octets: from there on it is spelled, with those behind it
pub record ArePlaces (places : List ℕ) (avps : List Avp) (octets : List ℕ) : Type 0 where
  pub each_has_one : length places ≡ length avps
  pub begins : (i : ℕ) → i < length places → members (drop (get_or places i 0) octets) ≡ Some (drop i avps)

-- the octets spell a message of this header, and these are the places of its AVPs behind the header
pub record HoldsMessage (h : Header) (octets places : List ℕ) : Type 0 where
  pub avps : List Avp
  pub spelled : SpellsMessage (record { header = h; avps = avps }) octets
  pub listed : members (drop 20 octets) ≡ Some avps
  pub placed : ArePlaces places avps (drop 20 octets)
