use Rattle.std.proofs.Common.{◌*◌}
use Rattle.dm_text.specs.SideBySide.{AreRead}
use Rattle.dm_text.proofs.hexadecimal.read_runs_of_sixteen_octets.Given as goal

abbrev pub invariant-runs : goal.invariant-runs
invariant-runs l = AreRead l.word l.octets (16 * l.k)
