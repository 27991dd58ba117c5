use Rattle.std.proofs.Common.{◌≡◌, ◌++◌, ◌+◌, length}
use Rattle.dm_replay.specs.Replay.{replay_from}
use Rattle.dm_replay.proofs.replay.push_whole_replay.Given as goal

-- what is still to come fills the text up
abbrev pub invariant-script : goal.invariant-script
invariant-script l =
    (l.count + length l.rest ≡ length l.list)
    × (l.text.items ++ (replay_from (l.count + 1) l.world l.rest).0 ≡ l.fn.text.items ++
    (replay_from 1 l.fn.world l.list).0)
    × ((replay_from (l.count + 1) l.world l.rest).1 ≡ (replay_from 1 l.fn.world l.list).1)

abbrev pub decreases-script : goal.decreases-script
decreases-script l = length l.rest
