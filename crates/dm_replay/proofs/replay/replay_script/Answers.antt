use Rattle.std.proofs.Common.{◌++◌, ap, ◌∙◌}
use Rattle.dm_replay.specs.Replay.{replay_from}
use Rattle.dm_replay.proofs.Worlds.{replayed, nothing_common, not_peers}
use Rattle.dm_replay.proofs.replay.replay_script.Goals as goal

pub returns-in-Ok : goal.returns-in-Ok
returns-in-Ok c =
    replayed c.args.script c.in-Ok.world c.push_whole_replay-good.new.text.items c.new-text.result.items
    c.in_ok-good-in-Ok.field-0 c.in-Ok.ensures.world c.in-Ok.ensures.fine
    c.new-text.ensures.items
    (c.in_ok-good-in-Ok.ensures.text ∙ ap
    (λ l. c.new-text.result.items ++ (replay_from 1 c.in-Ok.world l).0) c.as_slice.ensures)
    (c.in_ok-good-in-Ok.ensures.good ∙ ap (λ l. (replay_from 1 c.in-Ok.world l).1) c.as_slice.ensures)

pub returns-in-Err-NothingCommon : goal.returns-in-Err-NothingCommon
returns-in-Err-NothingCommon c =
    nothing_common c.args.script c.in_ok-text-in-Err-NothingCommon.text.items c.in-Err-NothingCommon.field-0
    c.in-Err-NothingCommon.ensures.fault
    c.in-Err-NothingCommon.field-0-is c.in_ok-text-in-Err-NothingCommon.ensures.items

pub unreachable-requires : goal.unreachable-requires
unreachable-requires c =
    not_peers c.args.script.left c.args.script.right c.in-Err-NotPeers.field-0 c.requires.left c.requires.right
    c.in-Err-NotPeers.ensures.fault c.in-Err-NotPeers.field-0-is
