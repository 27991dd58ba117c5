-- What stands inside a Vendor-Specific-Application-Id.
use Rattle.std.proofs.Common.{◌≡◌, ℕ, Bool, true, false, Some, [], ◌∷◌, refl}
use Rattle.dm_wire.specs.Canonical.{canonical_list}
use Rattle.dm_wire.specs.Members.{members}
use Rattle.dm_base.specs.Codes.{vendor_id}
use Rattle.dm_base.specs.Built.{number_avp, id_code}

-- its octets are two AVPs
pub inside : (b : Bool) (v n : ℕ)
    → members (canonical_list (number_avp vendor_id v ∷ number_avp (id_code b) n ∷ []))
    ≡ Some (number_avp vendor_id v ∷ number_avp (id_code b) n ∷ [])
unfolding members
inside true v n = refl
inside false v n = refl
