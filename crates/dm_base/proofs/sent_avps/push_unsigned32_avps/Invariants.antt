-- The numbers so far are appended.
use Rattle.std.proofs.Common.{◌≡◌, ◌++◌, take, map}
use Rattle.dm_base.specs.Built.{number_avp}
use Rattle.dm_base.proofs.sent_avps.push_unsigned32_avps.Given as goal

abbrev pub invariant-loop-id : goal.invariant-loop-id
invariant-loop-id l = l.avps.items ≡ l.fn.avps.items ++ map (number_avp l.code) (take l.id-index l.ids)
