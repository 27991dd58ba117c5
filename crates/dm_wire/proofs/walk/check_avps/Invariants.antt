-- Some AVPs were passed.
use Rattle.std.proofs.Common.{List}
use Rattle.dm_wire.specs.declared.avp.Avp.{Avp}
use Rattle.dm_wire.proofs.Walking.{Passed}
use Rattle.dm_wire.proofs.walk.check_avps.Given as goal

abbrev pub invariant-loop-read : goal.invariant-loop-read
invariant-loop-read l = (k : List Avp) × Passed l.octets k l.read-iterator
