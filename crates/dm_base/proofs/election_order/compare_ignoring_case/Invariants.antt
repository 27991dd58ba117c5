-- The octets from here on decide.
use Rattle.std.proofs.Common.{◌≡◌, ◌≤◌, ◌-◌, length, drop}
use Rattle.dm_base.specs.Before.{lower, order_of_hosts}
use Rattle.dm_base.proofs.election_order.compare_ignoring_case.Given as goal

abbrev pub invariant-loop-at : goal.invariant-loop-at
invariant-loop-at l =
    (l.at ≤ length l.one) × (l.at ≤ length l.other) ×
    (order_of_hosts (lower l.one) (lower l.other) ≡ order_of_hosts (lower (drop l.at l.one)) (lower (drop l.at l.other)))

abbrev pub decreases-loop-at : goal.decreases-loop-at
decreases-loop-at l = length l.one - l.at
