use Rattle.std.proofs.Common.{◌≡◌, ◌++◌, take}
use Rattle.std.specs.String.{string_bytes}
use Rattle.dm_live.specs.SenderLines.{number_lines}
use Rattle.dm_live.proofs.sender_lines.put_number_lines.Given as goal

-- so far these numbers are told
abbrev pub invariant-loop-number : goal.invariant-loop-number
invariant-loop-number l =
    string_bytes l.text ≡ string_bytes l.fn.text ++ number_lines l.name (take l.number-index l.numbers)
