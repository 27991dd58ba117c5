use Rattle.dm_replay.proofs.OneReads.{ScriptLaws, one_read, one_replay}
use Rattle.dm_replay.proofs.laws.one_reading_and_replay_at_most.Goals as goal

pub returns : goal.returns
returns c =
    let given = c.one_script_or_bad_line_at_most.ensures in
    let laws : ScriptLaws =
    record {
      one_script = given.script;
      one_bad_line = given.bad_line;
      not_both = given.not_both;
      not_nothing =
          given.not_nothing;
    }
    in record { read = one_read laws; replay = one_replay laws }
