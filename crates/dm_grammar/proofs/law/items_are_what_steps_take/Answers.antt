use Rattle.dm_grammar.specs.Places.GrammarPlace.{Text}
use Rattle.dm_grammar.proofs.Syntax.{one_place}
use Rattle.dm_grammar.proofs.Outcomes.{good_items}
use Rattle.dm_grammar.proofs.law.items_are_what_steps_take.Goals as goal

pub returns-clause-good : goal.returns-clause-good
returns-clause-good c = good_items

pub returns-clause-one_place : goal.returns-clause-one_place
returns-clause-one_place c = λ v ws p q. one_place v ws Text p q
