-- What was found first, copied.
use Rattle.dm_dict.proofs.Good.{good_result}
use Rattle.dm_tables.specs.Tables.{defined}
use Rattle.dm_dict.proofs.dictionary.Dictionary.check.Goals as goal

pub returns-clause-verdict : goal.returns-clause-verdict
returns-clause-verdict c =
    rw (← c.self.view_is, ← c.judge_message.ensures.fault c.args.message.now.avps c.as_slice.ensures) c.verdict.ensures.found

pub returns-clause-memory : goal.returns-clause-memory
returns-clause-memory c =
    rw (← c.self.view_is, ← c.judge_message.ensures.fault c.args.message.now.avps c.as_slice.ensures) c.verdict.ensures.memory

pub returns-clause-typed : goal.returns-clause-typed
returns-clause-typed c =
    rw (← c.self.view_is)
    (good_result c.verdict.result _ _
    (rw (c.judge_message.ensures.fault c.args.message.now.avps c.as_slice.ensures) at c.verdict.ensures.found)
    (c.good_messages_have_typed_values.ensures (defined c.self.inside.linked.tables) c.args.message.now))
