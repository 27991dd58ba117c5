-- Borrowed AVPs, and lists of AVPs that are held or spelled by octets (RFC 6733, 4.1 and 4.4).
use Rattle.std.specs.Prelude.{◌≡◌, ℕ, Some, List, length}
use Rattle.dm_wire.specs.declared.avp.Avp.{Avp}
use Rattle.dm_wire.specs.declared.avp_ref.AvpRef.{AvpRef}
use Rattle.dm_wire.specs.declared.avps_ref.AvpsRef.{AvpsRef}
use Rattle.dm_wire.specs.declared.avps_ref.AvpsRef.TheVariants.{Held, Spelled}
use Rattle.dm_wire.specs.Members.{members}

-- the AVP that a borrowed one stands for
abbrev pub avp_of : AvpRef → Avp
avp_of r =
    record { code = r.code; vendor = r.vendor; mandatory = r.mandatory; protected = r.protected; bytes = r.bytes.now }

-- the AVPs are l
abbrev pub Lists : AvpsRef → List Avp → Type 0
Lists (Held avps) l = avps.now ≡ l
Lists (Spelled octets) l = members octets.now ≡ Some l

-- no fewer than the AVPs
abbrev pub size_of : AvpsRef → ℕ
size_of (Held avps) = length avps.now
size_of (Spelled octets) = length octets.now
