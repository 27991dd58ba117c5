use Rattle.dm_view.specs.Clean.{CleanBetween}
use Rattle.dm_view.proofs.clean.are_escape_free_ascii_singly.Given as goal

-- the octets so far
abbrev pub invariant-octets : goal.invariant-octets
invariant-octets l = CleanBetween l.least l.octets 0 l.i
