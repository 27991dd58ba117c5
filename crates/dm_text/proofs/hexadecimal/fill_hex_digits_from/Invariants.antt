use Rattle.dm_text.specs.SideBySide.{PutUpTo}
use Rattle.dm_text.proofs.hexadecimal.fill_hex_digits_from.Given as goal

-- the digits so far, and then those of the octets that are left
abbrev pub invariant-octets : goal.invariant-octets
invariant-octets l = PutUpTo l.octets l.room l.i
