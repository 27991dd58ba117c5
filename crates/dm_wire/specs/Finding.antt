-- The AVPs of a code and vendor.
use Rattle.std.specs.Prelude.{◌≡◌, ℕ, Bool, ◌&&◌, nat_eq, Option, None, Some, List, [], ◌∷◌}
use Rattle.std.specs.Option.{option_eq}
use Rattle.dm_wire.specs.declared.avp.Avp.{Avp}

-- the AVP has this code and this vendor, or none where there is none (RFC 6733, 4.1)
abbrev pub is_of : ℕ → Option ℕ → Avp → Bool
is_of code vendor a = nat_eq a.code code && option_eq nat_eq a.vendor vendor

-- of the AVPs l that are left the first is given and k are left; none where none is left
abbrev pub GivesNext : List Avp → Option Avp → List Avp → Type 0
GivesNext l None k = (l ≡ []) × (k ≡ [])
GivesNext l (Some a) k = l ≡ a ∷ k
