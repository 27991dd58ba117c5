use Rattle.std.proofs.Common.{◌≡◌, filter, length}
use Rattle.dm_wire.specs.Finding.{is_of}
use Rattle.dm_wire.proofs.avps_of_code.AvpsOfIterator.next.Given as goal

-- what was passed is of another code or vendor
abbrev pub invariant-loop-first : goal.invariant-loop-first
invariant-loop-first l =
    (l.self-inside.code ≡ l.initial.self-inside.code)
    × (l.self-inside.vendor ≡ l.initial.self-inside.vendor)
    × (filter (is_of l.self-inside.code l.self-inside.vendor) l.self-inside.left.now
    ≡ filter (is_of l.initial.self-inside.code l.initial.self-inside.vendor) l.initial.self-inside.left.now)

abbrev pub decreases-loop-first : goal.decreases-loop-first
decreases-loop-first l = length l.self-inside.left.now
