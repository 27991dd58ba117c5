use Rattle.std.proofs.Common.{◌≡◌, ◌≤◌, true, vec_len}
use Rattle.std.specs.Io.KnownBytes.{Consumes}
use Rattle.dm_tool.specs.Limits.{input_limit}
use Rattle.dm_tool.proofs.input.read_to_stop.Given as goal

-- what was read is what was taken, and each read of a source that never fails gave something
abbrev pub invariant-loop-turn : goal.invariant-loop-turn
invariant-loop-turn g l =
    (vec_len l.input ≤ input_limit) × Consumes (g.S.Source.left l.fn.reader) (g.S.Source.left l.reader) l.input.items ×
    (g.S.Source.never_fails ≡ true → l._turn ≤ vec_len l.input)
