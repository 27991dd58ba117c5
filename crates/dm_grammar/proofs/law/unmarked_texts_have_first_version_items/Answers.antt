use Rattle.dm_grammar.proofs.FirstVersion.{items_of_first, fault_of_first, no_second}
use Rattle.dm_grammar.proofs.law.unmarked_texts_have_first_version_items.Goals as goal

pub returns-clause-items : goal.returns-clause-items
returns-clause-items c = items_of_first

pub returns-clause-fault : goal.returns-clause-fault
returns-clause-fault c = fault_of_first

pub returns-clause-apart : goal.returns-clause-apart
returns-clause-apart c = no_second
