-- The law of spellings, and that of good messages, at this node and header.
use Rattle.dm_base.proofs.Good.{good_error}
use Rattle.dm_base.proofs.answers.error_answer.Goals as goal

pub returns-clause-spelled : goal.returns-clause-spelled
returns-clause-spelled c = λ below.
    c.built_messages_have_spellings.ensures.error c.args.node.now c.args.to.now c.args.code (c.error_bit_answer.ensures.fits below)

pub returns-clause-good : goal.returns-clause-good
returns-clause-good c = record { faultless = good_error c.args.node.now c.args.to.now c.args.code }
