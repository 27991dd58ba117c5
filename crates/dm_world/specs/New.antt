-- Why two configurations make no world.
use Rattle.std.specs.Prelude.{not, Option, Some, None, if◌then◌else◌}
use Rattle.dm_base.specs.Common.{are_common}
use Rattle.dm_peer.specs.declared.config.Config.{Config}
use Rattle.dm_peer.specs.Hosts.{is_same_host}
use Rattle.dm_world.specs.declared.fault.NewFault.{NewFault}
use Rattle.dm_world.specs.declared.fault.NewFault.TheVariants.{NotPeers, NothingCommon}

-- a configured peer isn't the other side's host; or no application is common (RFC 6733, 5.3)
abbrev pub new_fault : Config → Config → Option NewFault
new_fault a b =
    if not (is_same_host a.peer b.node.host) then Some NotPeers
    else (if not (is_same_host b.peer a.node.host) then Some NotPeers
    else (if not (are_common a.node b.node) then Some NothingCommon else None))
