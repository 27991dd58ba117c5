use Rattle.std.proofs.Common.{◌≡◌, length, reverse}
use Rattle.dm_text.specs.Lines.{drop_spaces}
use Rattle.dm_text.proofs.line.trim_spaces.Given as goal

abbrev pub invariant-back : goal.invariant-back
invariant-back l = drop_spaces (reverse l.rest) ≡ drop_spaces (reverse (drop_spaces l.fn.line))

abbrev pub decreases-back : goal.decreases-back
decreases-back l = length l.rest
