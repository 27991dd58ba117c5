-- The addresses so far are appended.
use Rattle.std.proofs.Common.{◌≡◌, ◌++◌, take, map}
use Rattle.dm_base.specs.Built.{address_avp}
use Rattle.dm_base.proofs.sent_avps.push_host_ip_addresses.Given as goal

abbrev pub invariant-loop-ip : goal.invariant-loop-ip
invariant-loop-ip l = l.avps.items ≡ l.fn.avps.items ++ map address_avp (take l.ip-index l.addresses)
