use Rattle.dm_dict_text.proofs.OneOutcome.{one_definition}
use Rattle.dm_dict_text.proofs.laws.each_text_defines_one_dictionary_at_most.Goals as goal

pub returns : goal.returns
returns c = one_definition c.tokens_are_items_or_have_a_fault.ensures.one_list
