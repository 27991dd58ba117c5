-- How far the AVP at the front of octets goes (RFC 6733, 4.1).
use Rattle.std.specs.Prelude.{◌≡◌, ℕ, ◌≤◌, List, length}
use Rattle.dm_wire.specs.declared.avp_extent.Extent.{Extent}
use Rattle.dm_wire.specs.Spelling.{avp_header_len}
use Rattle.dm_wire.specs.Members.{vendor_at, length_at, padded}

-- an AVP begins s; its header, its data and its padding end there, within s
pub record IsExtent (x : Extent) (s : List ℕ) : Type 0 where
  pub header_is : x.header ≡ avp_header_len (vendor_at s)
  pub length_is : x.length ≡ length_at s
  pub size_is : x.size ≡ padded (length_at s)
  pub long : 8 ≤ x.header
  pub above : x.header ≤ x.length
  pub padded : x.length ≤ x.size
  pub within : x.size ≤ length s
