-- What a dictionary keeps to.
use Rattle.std.proofs.Common.{sym}
use Rattle.dm_tables.specs.Tables.{defined}
use Rattle.dm_dict.proofs.Fitting.{fit, apart_command, closed_command}
use Rattle.dm_dict.proofs.judge.judge_message.Goals as goal

pub judge_message_avps-requires-clause-fit : goal.judge_message_avps-requires-clause-fit
judge_message_avps-requires-clause-fit c =
    fit (defined c.args.dictionary.now.tables) c.requires.linked.dictionary.tables.sound c.requires.linked.dictionary.closed

pub judge_message_avps-requires-clause-rule : goal.judge_message_avps-requires-clause-rule
judge_message_avps-requires-clause-rule c =
    let d = defined c.args.dictionary.now.tables in
    let command = c.in-Some.field-0.def.now in
    record {
      apart = apart_command d _ _ _ command c.requires.linked.dictionary.tables.sound (sym c.in-Some.ensures.def);
      closed = closed_command d _ _ _ command c.requires.linked.dictionary.closed (sym c.in-Some.ensures.def);
      linked = c.in-Some.ensures.links;
    }
