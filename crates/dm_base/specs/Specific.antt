-- Applications of vendors (RFC 6733, 6.11).
use Rattle.std.specs.Prelude.{ℕ, List, map}
use Rattle.dm_base.specs.declared.vendor_application.VendorApplication.{VendorApplication}

-- the ids of applications of vendors
abbrev pub ids_of : List VendorApplication → List ℕ
ids_of l = map (λ (a : VendorApplication). a.application) l
