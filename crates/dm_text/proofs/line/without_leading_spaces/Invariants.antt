use Rattle.std.proofs.Common.{◌≡◌, length}
use Rattle.dm_text.specs.Lines.{drop_spaces}
use Rattle.dm_text.proofs.line.without_leading_spaces.Given as goal

abbrev pub invariant-front : goal.invariant-front
invariant-front l = drop_spaces l.rest ≡ drop_spaces l.fn.line

abbrev pub decreases-front : goal.decreases-front
decreases-front l = length l.rest
