-- Each by the laws of spellings.
use Rattle.dm_base.proofs.Sized.{cer_spelled, cea_spelled, dwr_spelled, dpr_spelled, answer_spelled, error_spelled}
use Rattle.dm_base.proofs.laws.built_messages_have_spellings.Goals as goal

pub returns-clause-cer : goal.returns-clause-cer
returns-clause-cer c = cer_spelled (record { spelled = c.fitting_messages_have_canonical_spelling.ensures; sized = c.canonical_avps_have_padded_length.ensures })

pub returns-clause-cea : goal.returns-clause-cea
returns-clause-cea c = cea_spelled (record { spelled = c.fitting_messages_have_canonical_spelling.ensures; sized = c.canonical_avps_have_padded_length.ensures })

pub returns-clause-dwr : goal.returns-clause-dwr
returns-clause-dwr c = dwr_spelled (record { spelled = c.fitting_messages_have_canonical_spelling.ensures; sized = c.canonical_avps_have_padded_length.ensures })

pub returns-clause-dpr : goal.returns-clause-dpr
returns-clause-dpr c = dpr_spelled (record { spelled = c.fitting_messages_have_canonical_spelling.ensures; sized = c.canonical_avps_have_padded_length.ensures })

pub returns-clause-answer : goal.returns-clause-answer
returns-clause-answer c = answer_spelled (record { spelled = c.fitting_messages_have_canonical_spelling.ensures; sized = c.canonical_avps_have_padded_length.ensures })

pub returns-clause-error : goal.returns-clause-error
returns-clause-error c = error_spelled (record { spelled = c.fitting_messages_have_canonical_spelling.ensures; sized = c.canonical_avps_have_padded_length.ensures })
