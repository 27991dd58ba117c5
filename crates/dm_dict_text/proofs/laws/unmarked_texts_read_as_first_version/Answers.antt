use Rattle.dm_dict_text.proofs.FirstFaults.{defines_first, faults_first, stays_first}
use Rattle.dm_dict_text.proofs.laws.unmarked_texts_read_as_first_version.Goals as goal

pub returns-clause-defines : goal.returns-clause-defines
returns-clause-defines c =
    λ text old new e. defines_first text old new (λ is. c.unmarked_texts_have_first_version_items.ensures.items text is e)

pub returns-clause-fault : goal.returns-clause-fault
returns-clause-fault c =
    λ text old fault e.
    faults_first text old fault (λ is. c.unmarked_texts_have_first_version_items.ensures.items text is e)
    (λ line. c.unmarked_texts_have_first_version_items.ensures.fault text line e)

pub returns-clause-stays : goal.returns-clause-stays
returns-clause-stays c =
    λ text old new e. stays_first text old new (λ is. c.unmarked_texts_have_first_version_items.ensures.items text is e)
