-- The message that octets spell, as an answer (RFC 6733, 3).
use Rattle.std.specs.Prelude.{◌≡◌, ◌↔◌, ℕ, ◌%◌, Bool, ◌&&◌, nat_eq, nat_le, Option, None, Some}
use Rattle.std.specs.Prelude.{option_map, List, length, drop, slice_index, if◌then◌else◌}
use Rattle.byteorder.specs.Endian.{big_number}
use Rattle.dm_wire.specs.declared.avp.Avp.{Avp}
use Rattle.dm_wire.specs.declared.message.Header.{Header}
use Rattle.dm_wire.specs.declared.message.Message.{Message}
use Rattle.dm_wire.specs.Members.{members}
use Rattle.dm_wire.specs.Spelling.{is_bit_set, SpellsMessage}
use Rattle.dm_wire.specs.Octets.{AreOctets}

-- a whole header of version 1, whose Message Length is the size, a multiple of 4
abbrev pub has_header : List ℕ → Bool
has_header s =
    nat_le 20 (length s)
    && (nat_eq (slice_index s 0) 1 && (nat_eq (big_number 3 (drop 1 s)) (length s) && nat_eq (length s % 4) 0))

-- the fields of the header
abbrev pub header_in : List ℕ → Header
header_in s =
    record {
      request = is_bit_set (slice_index s 4) 128;
      proxiable = is_bit_set (slice_index s 4) 64;
      error = is_bit_set (slice_index s 4) 32;
      retransmit = is_bit_set (slice_index s 4) 16;
      command = big_number 3 (drop 5 s);
      application = big_number 4 (drop 8 s);
      hop_id = big_number 4 (drop 12 s);
      end_id = big_number 4 (drop 16 s);
    }

abbrev pub with_header : List ℕ → List Avp → Message
with_header s l = record { header = header_in s; avps = l }

-- the message that s spells, where it spells one: the header, and behind it AVPs, one after the other
unfoldable pub message_in : List ℕ → Option Message
message_in s = if has_header s then option_map (with_header s) (members (drop 20 s)) else None

-- octets have just the message that they spell
abbrev pub MessageInSpells : Type 0
MessageInSpells =
    (s : List ℕ) (m : Message) → AreOctets s → (message_in s ≡ Some m) ↔ SpellsMessage m s

-- and what is spelled is in them, even where a number of the list is no octet
abbrev pub SpelledIsIn : Type 0
SpelledIsIn = (s : List ℕ) (m : Message) → SpellsMessage m s → message_in s ≡ Some m
