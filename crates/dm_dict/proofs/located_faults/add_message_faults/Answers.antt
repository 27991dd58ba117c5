-- What a dictionary keeps to.
use Rattle.std.proofs.Common.{sym}
use Rattle.dm_tables.specs.Tables.{defined}
use Rattle.dm_dict.proofs.Fitting.{fit, apart_command, closed_command}
use Rattle.dm_dict.proofs.located_faults.add_message_faults.Goals as goal

pub add_faults_under_rule-requires-clause-fit : goal.add_faults_under_rule-requires-clause-fit
add_faults_under_rule-requires-clause-fit c =
    fit (defined c.args.dictionary.now.tables) c.requires.linked.dictionary.tables.sound c.requires.linked.dictionary.closed

pub add_faults_under_rule-requires-clause-rule : goal.add_faults_under_rule-requires-clause-rule
add_faults_under_rule-requires-clause-rule c =
    let d = defined c.args.dictionary.now.tables in
    let command = c.in-Some.field-0.def.now in
    record {
      apart = apart_command d _ _ _ command c.requires.linked.dictionary.tables.sound (sym c.in-Some.ensures.def);
      closed = closed_command d _ _ _ command c.requires.linked.dictionary.closed (sym c.in-Some.ensures.def);
      linked = c.in-Some.ensures.links;
    }
