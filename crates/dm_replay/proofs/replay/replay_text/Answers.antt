use Rattle.dm_replay.proofs.Worlds.{configured, script_was_read}
use Rattle.dm_replay.proofs.replay.replay_text.Goals as goal

pub replay_script-requires-clause-left : goal.replay_script-requires-clause-left
replay_script-requires-clause-left c =
    let s = script_was_read c.args.text.now c.read_script.result c.in-Ok.read c.in-Some.script c.in-Ok.is c.in-Some.is
    c.read_script.ensures.read in
    configured s.left s.right c.in-Some.script.left c.in-Some.script.right s.left_is s.right_is

pub replay_script-requires-clause-right : goal.replay_script-requires-clause-right
replay_script-requires-clause-right c =
    let s = script_was_read c.args.text.now c.read_script.result c.in-Ok.read c.in-Some.script c.in-Ok.is c.in-Some.is
    c.read_script.ensures.read in
    configured s.right s.left c.in-Some.script.right c.in-Some.script.left s.right_is s.left_is
