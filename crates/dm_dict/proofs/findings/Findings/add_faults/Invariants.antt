use Rattle.std.proofs.Common.{◌≡◌, ◌++◌, map, length}
use Rattle.std.specs.Option.{option_copied}
use Rattle.dm_dict.specs.Listing.{all_told}
use Rattle.dm_dict.specs.Located.{here}
use Rattle.dm_dict.specs.Locating.{found, told_behind}
use Rattle.dm_dict.proofs.findings.Findings.add_faults.Given as goal

-- the faults that are left come behind those that are listed
abbrev pub invariant-loop-left : goal.invariant-loop-left
invariant-loop-left l =
    found (option_copied l.path) l.self ++ map (told_behind (option_copied l.path)) (map here (all_told l.left))
    ≡ found (option_copied l.path) l.fn.self ++ map (told_behind (option_copied l.path)) (map here (all_told l.faults))

abbrev pub decreases-loop-left : goal.decreases-loop-left
decreases-loop-left l = length l.left
