-- Whether a Diameter message may begin with some octets (RFC 6733, 3).
use Rattle.std.specs.Prelude.{◌≡◌, ◌≤◌, ◌%◌, ◌/◌, ℕ, List, length, drop, slice_index}
use Rattle.byteorder.specs.Endian.{big_number}
use Rattle.dm_framer.specs.Frames.{message_length}

-- the header is there: version 1, a Message Length of at least the header's 20 octets and a multiple of 4, and the four
-- reserved bits of the Command Flags clear
pub record BeginsWithHeader (s : List ℕ) : Type 0 where
  pub whole : 20 ≤ length s
  pub version : slice_index s 0 ≡ 1
  pub least : 20 ≤ message_length s
  pub aligned : message_length s % 4 ≡ 0
  pub reserved : slice_index s 4 % 16 ≡ 0

-- the header is that of a Capabilities-Exchange-Request: the R bit set, Command Code 257, Application-ID 0 (5.3.1)
pub record BeginsWithExchange (s : List ℕ) : Type 0 where
  pub header : BeginsWithHeader s
  pub request : slice_index s 4 / 128 ≡ 1
  pub command : big_number 3 (drop 5 s) ≡ 257
  pub application : big_number 4 (drop 8 s) ≡ 0
