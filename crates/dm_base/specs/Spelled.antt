-- Messages that octets spell (RFC 6733, 3).
use Rattle.std.specs.Prelude.{ℕ, List}
use Rattle.dm_wire.specs.declared.message.Message.{Message}
use Rattle.dm_wire.specs.Spelling.{SpellsMessage}

-- octets spell the message
pub record HasSpelling (m : Message) : Type 0 where
  pub octets : List ℕ
  pub spelled : SpellsMessage m octets

-- these octets spell the message
pub record IsSpelledBy (m : Message) (octets : List ℕ) : Type 0 where
  pub spelled : SpellsMessage m octets
