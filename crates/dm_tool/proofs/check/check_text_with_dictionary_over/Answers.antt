use Rattle.dm_tool.proofs.DictionaryFaults.{only_fault}
use Rattle.dm_tool.proofs.check.check_text_with_dictionary_over.Goals as goal

pub returns-in-Err-clause-checked : goal.returns-in-Err-clause-checked
returns-in-Err-clause-checked c =
    only_fault c.args.input.now c.divide_at_divider_or_end-divided.result.dictionary.now c.args.base.now c.in-Err.fault
    c.dictionary_refusal_text.result
    (λ p. p.0.items) (λ p. p.1) c.divide_at_divider_or_end-divided.ensures.dictionary c.requires.base c.in-Err.ensures.fault
    c.dictionary_refusal_text.ensures.words c.dictionary_refusal_text.ensures.known c.dictionary_refusal_text.ensures.bad
