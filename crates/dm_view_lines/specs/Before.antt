-- What stands before a bad AVP.
use Rattle.std.specs.Prelude.{ℕ, unwrap_or, List, [], take, drop}
use Rattle.dm_wire.specs.declared.avp.Avp.{Avp}
use Rattle.dm_wire.specs.Members.{members}

-- the AVPs before octet o
abbrev pub avps_before : List ℕ → ℕ → List Avp
avps_before s o = unwrap_or (members (drop 20 (take o s))) []
