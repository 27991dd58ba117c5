-- None of the ids so far is an own one.
use Rattle.std.proofs.Common.{◌≡◌, false, take}
use Rattle.std.specs.List.{list_any}
use Rattle.dm_base.specs.Common.{is_own}
use Rattle.dm_base.proofs.applications.has_own_or_relay_id.Given as goal

abbrev pub invariant-loop-id : goal.invariant-loop-id
invariant-loop-id l = list_any (is_own l.auth l.acct l.specific) (take l.id-index l.theirs) ≡ false
