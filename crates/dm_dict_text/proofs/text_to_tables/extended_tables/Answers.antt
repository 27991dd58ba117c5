use Rattle.dm_dict_text.proofs.Handed.{handed_ok, handed_err}
use Rattle.dm_dict_text.proofs.text_to_tables.extended_tables.Goals as goal

pub returns-clause-good : goal.returns-clause-good
returns-clause-good c =
    handed_ok c.add_old_and_new_definitions-done.result _ _ _ c.and.ensures
    c.add_old_and_new_definitions-done.ensures.good

pub returns-clause-added : goal.returns-clause-added
returns-clause-added c =
    handed_ok c.add_old_and_new_definitions-done.result _ _ _ c.and.ensures
    c.add_old_and_new_definitions-done.ensures.added

pub returns-clause-dictionary : goal.returns-clause-dictionary
returns-clause-dictionary c =
    handed_ok c.add_old_and_new_definitions-done.result _ _ _ c.and.ensures
    c.add_old_and_new_definitions-done.ensures.dictionary

pub returns-clause-fault : goal.returns-clause-fault
returns-clause-fault c =
    handed_err c.add_old_and_new_definitions-done.result _ _ _ c.and.ensures
    c.add_old_and_new_definitions-done.ensures.fault
