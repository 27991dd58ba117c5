use Rattle.dm_dict_text.proofs.SomeOutcomes.{some_outcome}
use Rattle.dm_dict_text.proofs.laws.each_text_defines_or_has_fault.Goals as goal

pub returns : goal.returns
returns c = λ text old. some_outcome text old (c.tokens_are_items_or_have_a_fault.ensures.some text)
