-- What fits its field, and what would not (RFC 6733, 3 and 4.1).
use Rattle.std.specs.Prelude.{◌<◌, ◌^◌, ◌⊎◌, IfSome, List}
use Rattle.std.specs.List.{Any}
use Rattle.dm_wire.specs.declared.avp.Avp.{Avp}
use Rattle.dm_wire.specs.declared.message.Header.{Header}
use Rattle.dm_wire.specs.declared.message.Message.{Message}
use Rattle.dm_wire.specs.Spelling.{avp_length}
use Rattle.dm_wire.specs.Canonical.{message_size}
use Rattle.dm_wire.specs.Codes.{max_command, max_avp_len, max_message_len}

-- the AVP Length is above the greatest that three octets hold (4.1)
abbrev pub IsLongAvp : Avp → Type 0
IsLongAvp a = max_avp_len < avp_length a

-- the AVP Length of one is
abbrev pub IsLongList : List Avp → Type 0
IsLongList l = Any IsLongAvp l

-- an AVP Length is, the Message Length is above the greatest multiple of 4 that three octets hold, or the Command Code
-- above what three octets hold (3)
abbrev pub IsLongMessage : Message → Type 0
IsLongMessage m = IsLongList m.avps ⊎ (max_message_len < message_size m) ⊎ (max_command < m.header.command)

-- the code, the AVP Length and the Vendor-ID fit their fields (4.1)
pub record AvpFits (a : Avp) : Type 0 where
  pub code : a.code < 256 ^ 4
  pub length : avp_length a < 256 ^ 3
  pub vendor : IfSome a.vendor (λ vendor. vendor < 256 ^ 4)

-- the numbers of a header fit their fields (3)
pub record HeaderFits (h : Header) : Type 0 where
  pub command : h.command < 256 ^ 3
  pub application : h.application < 256 ^ 4
  pub hop : h.hop_id < 256 ^ 4
  pub end : h.end_id < 256 ^ 4
