-- What spells a message is a frame of a stream (RFC 6733, 3).
use Rattle.std.specs.Prelude.{◌≡◌, ℕ, List}
use Rattle.dm_framer.specs.Frames.{IsFrame}
use Rattle.dm_wire.specs.declared.message.Message.{Message}
use Rattle.dm_wire.specs.Codes.{max_message_len}
use Rattle.dm_wire.specs.Spelling.{SpellsMessage}
use Rattle.dm_wire.specs.Canonical.{canonical_message}

-- a frame for the greatest Message Length
abbrev pub SpelledIsFramed : Type 0
SpelledIsFramed = (m : Message) (s : List ℕ) → SpellsMessage m s → IsFrame max_message_len s

-- so are the canonical octets of AVPs that stand in a message, whatever the numbers of their header
abbrev pub CanonicalIsFramed : Type 0
CanonicalIsFramed =
    (m k : Message) (s : List ℕ) → SpellsMessage k s → m.avps ≡ k.avps → IsFrame max_message_len (canonical_message m)
