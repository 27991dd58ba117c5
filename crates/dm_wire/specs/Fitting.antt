-- What fits its fields is spelled by its canonical octets (RFC 6733, 3 and 4.1).
use Rattle.std.specs.Prelude.{◌≡◌, ◌≤◌, List, length}
use Rattle.std.specs.List.{All}
use Rattle.dm_wire.specs.declared.avp.Avp.{Avp}
use Rattle.dm_wire.specs.declared.message.Message.{Message}
use Rattle.dm_wire.specs.Spelling.{avp_length, SpellsAvp, SpellsList, SpellsMessage}
use Rattle.dm_wire.specs.Canonical.{canonical_avp, canonical_list, message_size, canonical_message}
use Rattle.dm_wire.specs.Codes.{max_message_len}
use Rattle.dm_wire.specs.Limits.{AvpFits, HeaderFits}
use Rattle.dm_wire.specs.Members.{padded}

-- an AVP
abbrev pub AvpSpelled : Type 0
AvpSpelled = (a : Avp) → AvpFits a → SpellsAvp a (canonical_avp a)

-- its octets are header and data, filled up to a multiple of 4
abbrev pub AvpSized : Type 0
AvpSized = (a : Avp) → length (canonical_avp a) ≡ padded (avp_length a)

-- a list of AVPs
abbrev pub ListSpelled : Type 0
ListSpelled = (l : List Avp) → All AvpFits l → SpellsList l (canonical_list l)

-- a message of at most the greatest Message Length
abbrev pub MessageSpelled : Type 0
MessageSpelled =
    (m : Message) → HeaderFits m.header → All AvpFits m.avps → message_size m ≤ max_message_len →
    SpellsMessage m (canonical_message m)
