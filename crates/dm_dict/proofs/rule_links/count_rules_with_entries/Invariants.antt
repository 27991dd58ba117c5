use Rattle.std.proofs.Common.{◌≤◌}
use Rattle.dm_dict.proofs.rule_links.count_rules_with_entries.Given as goal

abbrev pub invariant-loop-avp : goal.invariant-loop-avp
invariant-loop-avp l = l.count ≤ l.avp-index
