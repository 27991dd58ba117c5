use Rattle.std.proofs.Common.{◌≡◌, ◌<◌, ◌≤◌, ◌^◌, ◌++◌, drop}
use Rattle.std.specs.Fmt.{decimal}
use Rattle.dm_text.proofs.decimal.fill_end_with_decimal.Given as goal

-- the digits that are left fit the places in front, and those behind are put
abbrev pub invariant-digits : goal.invariant-digits
invariant-digits l = (l.left < 10 ^ l.start) × (0 < l.start) × (l.start ≤ 20)
    × (decimal l.left ++ drop l.start l.room ≡ decimal l.number)

abbrev pub decreases-digits : goal.decreases-digits
decreases-digits l = l.left
