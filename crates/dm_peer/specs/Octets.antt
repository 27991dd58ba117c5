-- The octets that are sent, and those that come (RFC 6733, 3).
use Rattle.std.specs.Prelude.{ℕ, List}
use Rattle.dm_wire.specs.declared.message.Message.{Message}
use Rattle.dm_wire.specs.Canonical.{canonical_message}

-- the octets that a message is sent as: zero padding and zero reserved bits
unfoldable pub octets_of : Message → List ℕ
octets_of m = canonical_message m
