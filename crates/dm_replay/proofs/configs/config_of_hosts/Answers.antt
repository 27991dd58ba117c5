use Rattle.dm_replay.proofs.SameHosts.{no_fault}
use Rattle.dm_replay.proofs.configs.config_of_hosts.Goals as goal

pub unreachable-requires : goal.unreachable-requires
unreachable-requires c =
    no_fault c.args.own.host.now c.args.other.host.now c.in_ok-node.node.host c.in_ok-peer.peer.items
    c.in-Err.fault
    c.in_ok-node.ensures.host c.in_ok-peer.ensures.items
    c.requires.other c.requires.differ c.in-Err.ensures.fault c.in-BadHost.is
