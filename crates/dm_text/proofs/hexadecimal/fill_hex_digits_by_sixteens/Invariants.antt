use Rattle.std.proofs.Common.{◌*◌}
use Rattle.dm_text.specs.SideBySide.{PutUpTo}
use Rattle.dm_text.proofs.hexadecimal.fill_hex_digits_by_sixteens.Given as goal

abbrev pub invariant-runs : goal.invariant-runs
invariant-runs l = PutUpTo l.octets l.room (16 * l.k)
