use Rattle.std.proofs.Common.{◌≡◌, ◌++◌, map, option_map, take, drop}
use Rattle.dm_node.specs.Emptying.{set_back}
use Rattle.dm_node.proofs.removal_and_reset.reset_all_peers.Given as goal

abbrev pub invariant-loop-peer : goal.invariant-loop-peer
invariant-loop-peer l =
    l.peer-items ≡
    map (option_map set_back) (take l.peer-index l.fn.peers.items) ++ drop l.peer-index l.fn.peers.items
