use Rattle.std.proofs.Common.{get_or, true, ◌≡◌, ◌<◌, ℕ}
use Rattle.dm_view_lines.specs.Digits.{is_between}
use Rattle.dm_view_lines.proofs.hexadecimal.find_near_separator.Given as goal

-- none of the octets before is one
abbrev pub invariant-few : goal.invariant-few
invariant-few l = (k : ℕ) → k < l.at → ¬ (is_between (get_or l.words k 0) ≡ true)
