-- Those so far have.
use Rattle.std.proofs.Common.{◌≡◌, true, take}
use Rattle.std.specs.List.{list_all}
use Rattle.dm_base.specs.Fit.{is_vendor_application}
use Rattle.dm_base.proofs.private_laws.all_application_numbers_fit_32_bits.Given as goal

abbrev pub invariant-loop-application : goal.invariant-loop-application
invariant-loop-application l = list_all is_vendor_application (take l.application-index l.applications) ≡ true
