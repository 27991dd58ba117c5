-- The applications so far are appended.
use Rattle.std.proofs.Common.{◌≡◌, ◌++◌, take, map}
use Rattle.dm_base.specs.Built.{specific_avp}
use Rattle.dm_base.proofs.sent_avps.push_vendor_applications.Given as goal

abbrev pub invariant-loop-application : goal.invariant-loop-application
invariant-loop-application l = l.avps.items ≡ l.fn.avps.items ++ map specific_avp (take l.application-index l.applications)
