-- Without paths the faults are listed where they are.
use Rattle.std.proofs.Common.{◌≡◌, ◌++◌, List, None, map}
use Rattle.std.proofs.lemmas.List.{map-append}
use Rattle.dm_dict.specs.Faults.{Fault}
use Rattle.dm_dict.specs.Listing.{all_told}
use Rattle.dm_dict.specs.Located.{here}
use Rattle.dm_dict.specs.Locating.{told_behind}
use Rattle.dm_dict.proofs.Listed.{under_done}
use Rattle.dm_dict.proofs.Paths.{placed_here}
use Rattle.dm_dict.proofs.avp_faults.add_faults_of_all_entries.Goals as goal

-- more of those without paths
more_here : (old new fs : List Fault) → new ≡ old ++ fs → map here new ≡ map here old ++ map (told_behind None) (map here fs)
more_here old new fs is = rw (is, placed_here fs) (map-append here old fs)

pub returns-in_default : goal.returns-in_default
returns-in_default c =
    under_done c.push_faults_of_all_entries.result
    (λ listed l is. rw c.in_default.is
    (more_here (all_told c.args.findings.now.faults.items) (all_told c.push_faults_of_all_entries.new.faults.items) _
    (listed l is)))
    c.push_faults_of_all_entries.ensures
