-- The text's one outcome, or want of memory.
use Rattle.dm_tables.specs.Tables.{defined}
use Rattle.dm_dict.proofs.ReadOutcomes.{only_at_ok, only_at_err, refuses_at_ok, refuses_at_err}
use Rattle.dm_tables.specs.Tables.{defined}
use Rattle.dm_dict.proofs.dictionary.Dictionary.read.Goals as goal

pub returns-in_ok-dictionary_of_tables-in-Ok-clause-only : goal.returns-in_ok-dictionary_of_tables-in-Ok-clause-only
returns-in_ok-dictionary_of_tables-in-Ok-clause-only c = rw (← c.old.view_is, c.in_ok-dictionary_of_tables-in-Ok.ensures)
    (λ new d. only_at_ok c.args.text.now (defined c.old.inside.linked.tables) c.each_text_defines_one_dictionary_at_most.ensures
    (defined c.in-Ok.tables) new c.in-Ok.ensures.defines d)

pub returns-in_ok-dictionary_of_tables-in-Ok-clause-refuses : goal.returns-in_ok-dictionary_of_tables-in-Ok-clause-refuses
returns-in_ok-dictionary_of_tables-in-Ok-clause-refuses c = rw (← c.old.view_is, c.in_ok-dictionary_of_tables-in-Ok.ensures)
    (λ f h. refuses_at_ok c.args.text.now (defined c.old.inside.linked.tables) c.defining_texts_have_no_fault.ensures
    (defined c.in-Ok.tables) f c.in-Ok.ensures.defines h)

pub returns-in-Err-clause-only : goal.returns-in-Err-clause-only
returns-in-Err-clause-only c = rw (← c.old.view_is)
    (λ new d. only_at_err c.args.text.now (defined c.old.inside.linked.tables) c.defining_texts_have_no_fault.ensures
    c.in-Err.fault new c.in-Err.ensures.fault d)

pub returns-in-Err-clause-refuses : goal.returns-in-Err-clause-refuses
returns-in-Err-clause-refuses c = rw (← c.old.view_is)
    (λ f h. refuses_at_err c.args.text.now (defined c.old.inside.linked.tables) c.each_text_has_one_first_fault_at_most.ensures
    c.in-Err.fault f c.in-Err.ensures.fault h)
