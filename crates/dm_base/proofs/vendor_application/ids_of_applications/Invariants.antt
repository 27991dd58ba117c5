-- The ids so far.
use Rattle.std.proofs.Common.{◌≡◌, take}
use Rattle.dm_base.specs.Specific.{ids_of}
use Rattle.dm_base.proofs.vendor_application.ids_of_applications.Given as goal

abbrev pub invariant-loop-application : goal.invariant-loop-application
invariant-loop-application l = l.ids.items ≡ ids_of (take l.application-index l.applications)
