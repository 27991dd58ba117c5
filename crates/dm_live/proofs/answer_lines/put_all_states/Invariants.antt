use Rattle.std.proofs.Common.{◌≡◌, ◌++◌, drop}
use Rattle.std.specs.String.{string_bytes}
use Rattle.dm_live.specs.Answers.{states_lines}
use Rattle.dm_live.proofs.answer_lines.put_all_states.Given as goal

-- with how the others stand it is the whole
abbrev pub invariant-place : goal.invariant-place
invariant-place l =
    string_bytes l.text ++ states_lines l.index (drop l.index l.places)
    ≡ string_bytes l.fn.text ++ states_lines 0 l.places
