use Rattle.std.proofs.Common.{◌≡◌, map, drop}
use Rattle.dm_grammar.specs.Views.{view_entry}
use Rattle.dm_dict_text.specs.Making.{making}
use Rattle.dm_dict_text.specs.Faults.{rule_unknown}
use Rattle.dm_dict_text.proofs.unknown.first_unknown_in_rule.Given as goal

abbrev pub invariant-loop-entry : goal.invariant-loop-entry
invariant-loop-entry l =
    rule_unknown (making l.tables l.strays) (map view_entry l.rule) ≡ rule_unknown (making l.tables l.strays)
    (map view_entry (drop l.entry-index l.rule))
