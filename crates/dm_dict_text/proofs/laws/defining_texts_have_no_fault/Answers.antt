use Rattle.dm_dict_text.proofs.OneOutcome.{no_outcome}
use Rattle.dm_dict_text.proofs.laws.defining_texts_have_no_fault.Goals as goal

pub returns : goal.returns
returns c = no_outcome c.tokens_are_items_or_have_a_fault.ensures.one_list c.tokens_are_items_or_have_a_fault.ensures.apart
