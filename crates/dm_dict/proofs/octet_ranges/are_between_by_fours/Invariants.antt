use Rattle.std.proofs.Common.{◌≡◌, length}
use Rattle.std.specs.Int.{is_in_range}
use Rattle.std.specs.List.{list_all}
use Rattle.dm_dict.proofs.octet_ranges.are_between_by_fours.Given as goal

abbrev pub invariant-loop-left : goal.invariant-loop-left
invariant-loop-left l = list_all (is_in_range l.least l.most) l.octets ≡ list_all (is_in_range l.least l.most) l.left

abbrev pub decreases-loop-left : goal.decreases-loop-left
decreases-loop-left l = length l.left
