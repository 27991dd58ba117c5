-- The located faults of a message that are listed.
use Rattle.std.specs.Prelude.{◌≡◌, ◌+◌, ◌≤◌, ℕ, Option, None, Some, IfSome, List, ◌++◌, map, take}
use Rattle.dm_dict.specs.declared.path.Path.{Path}
use Rattle.dm_dict.specs.declared.path.Step.{Step}
use Rattle.dm_dict.specs.declared.located_fault.LocatedFault.{LocatedFault}
use Rattle.dm_dict.specs.declared.findings.Findings.{Findings}
use Rattle.dm_dict.specs.Listing.{fault_listed, all_told}
use Rattle.dm_dict.specs.Located.{Located, here}

-- how many groups a path has room for, as many as may stand inside each other
abbrev pub path_limit : ℕ
path_limit = 8

-- the groups of a path
abbrev pub path_of : Path → List Step
path_of p = take p.size p.steps

-- the fault that is listed, with its path
abbrev pub told_at : LocatedFault → Located
told_at f = record { path = path_of f.path; fault = fault_listed f.fault }

-- in the groups of this path
abbrev pub behind : List Step → Located → Located
behind p f = record f { path = p ++ f.path }

-- in the groups of this path; without any, where no paths are kept
abbrev pub told_behind : Option Path → Located → Located
told_behind None f = here f.fault
told_behind (Some p) f = behind (path_of p) f

-- what is listed so far: the faults with their paths, or those without
abbrev pub found : Option Path → Findings → List Located
found None s = map here (all_told s.faults.items)
found (Some p) s = map told_at s.located.items

-- behind what was listed stand just these, in the groups of the path
abbrev pub AddsAt : Findings → Findings → Option Path → List Located → Type 0
AddsAt old new p more = found p new ≡ found p old ++ map (told_behind p) more

-- the path has room for so many groups more
abbrev pub HasRoomInside : Option Path → ℕ → Type 0
HasRoomInside p depth = IfSome p (λ path. path.size + depth ≤ path_limit)
