-- What is written is read back (RFC 6733, 3 and 4.1).
use Rattle.std.specs.Prelude.{◌≡◌, ℕ, ◌^◌, ◌<◌, ◌≤◌, List, length}
use Rattle.dm_wire.specs.declared.avp.Avp.{Avp}
use Rattle.dm_wire.specs.declared.message.Header.{Header}
use Rattle.dm_wire.specs.declared.message.Message.{Message}
use Rattle.dm_wire.specs.Codes.{max_message_len}
use Rattle.dm_wire.specs.Spelling.{SpellsList, SpellsHeader, SpellsMessage}
use Rattle.dm_wire.specs.Canonical.{canonical_list, canonical_header, canonical_message}

-- a message that has a spelling is spelled by its canonical octets
abbrev pub CanonicalSpells : Type 0
CanonicalSpells = (m : Message) (s : List ℕ) → SpellsMessage m s → SpellsMessage m (canonical_message m)

-- they spell no other message: decode(encode(m)) is m
abbrev pub ReadsBack : Type 0
ReadsBack = (m k : Message) (s : List ℕ) → SpellsMessage m s → SpellsMessage k (canonical_message m) → k ≡ m

-- of the spellings of a message none is longer than another
abbrev pub OneSize : Type 0
OneSize = (m : Message) (s : List ℕ) → SpellsMessage m s → length s ≡ length (canonical_message m)

-- a list of AVPs that has a spelling is spelled by its canonical octets
abbrev pub CanonicalListSpells : Type 0
CanonicalListSpells = (l : List Avp) (s : List ℕ) → SpellsList l s → SpellsList l (canonical_list l)

-- they spell no other list: decode_avps(encode_avps(l)) is l
abbrev pub ListReadsBack : Type 0
ListReadsBack = (l k : List Avp) (s : List ℕ) → SpellsList l s → SpellsList k (canonical_list l) → k ≡ l

-- a header whose fields have room is spelled by its canonical octets
abbrev pub CanonicalHeaderSpelled : Type 0
CanonicalHeaderSpelled =
    (h : Header) (size : ℕ) → size ≤ max_message_len → h.command < 256 ^ 3 → h.application < 256 ^ 4
    → h.hop_id < 256 ^ 4 → h.end_id < 256 ^ 4
    → SpellsHeader h size (canonical_header h size)
