use Rattle.std.proofs.Common.{◌*◌}
use Rattle.dm_view.specs.Clean.{CleanBetween}
use Rattle.dm_view.proofs.clean.are_runs_escape_free_ascii.Given as goal

-- the runs so far
abbrev pub invariant-runs : goal.invariant-runs
invariant-runs l = CleanBetween l.least l.octets 0 (16 * l.k)
