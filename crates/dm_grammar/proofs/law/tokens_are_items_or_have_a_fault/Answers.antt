use Rattle.dm_grammar.proofs.ItemsLaw.{one_list}
use Rattle.dm_grammar.proofs.Outcomes.{some_outcome, never_both, one_line}
use Rattle.dm_grammar.proofs.law.tokens_are_items_or_have_a_fault.Goals as goal

pub returns-clause-some : goal.returns-clause-some
returns-clause-some c = some_outcome

pub returns-clause-apart : goal.returns-clause-apart
returns-clause-apart c = never_both

pub returns-clause-one_list : goal.returns-clause-one_list
returns-clause-one_list c = one_list

pub returns-clause-one_line : goal.returns-clause-one_line
returns-clause-one_line c = one_line
