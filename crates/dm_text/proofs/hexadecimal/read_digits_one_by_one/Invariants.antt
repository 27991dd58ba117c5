use Rattle.dm_text.proofs.Decoded.{DecodedSoFar}
use Rattle.dm_text.proofs.hexadecimal.read_digits_one_by_one.Given as goal

abbrev pub invariant-octets : goal.invariant-octets
invariant-octets l = DecodedSoFar l.word l.octets l.i l.worst
