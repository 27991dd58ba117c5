use Rattle.dm_dict_text.proofs.OneOutcome.{one_fault}
use Rattle.dm_dict_text.proofs.laws.each_text_has_one_first_fault_at_most.Goals as goal

pub returns : goal.returns
returns c = one_fault c.tokens_are_items_or_have_a_fault.ensures.one_list c.tokens_are_items_or_have_a_fault.ensures.one_line c.tokens_are_items_or_have_a_fault.ensures.apart
