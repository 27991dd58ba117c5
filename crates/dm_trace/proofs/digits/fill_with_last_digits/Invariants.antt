use Rattle.std.proofs.Common.{◌≡◌, ◌≤◌, ◌++◌, length, drop}
use Rattle.dm_trace.specs.Digits.{last_digits}
use Rattle.dm_trace.proofs.digits.fill_with_last_digits.Given as goal

-- the digits that are left fit the places in front, and those behind are put
abbrev pub invariant-digits : goal.invariant-digits
invariant-digits l = (l.start ≤ length l.room)
    × (last_digits l.start l.left ++ drop l.start l.room ≡ last_digits (length l.fn.room) l.number)

abbrev pub decreases-digits : goal.decreases-digits
decreases-digits l = l.start
