-- What a configuration says.
use Rattle.std.specs.Prelude.{Bool}
use Rattle.dm_peer.specs.declared.config.Config.{Config}
use Rattle.dm_peer.specs.Hosts.{comes_later}

-- the own side wins an election: the peer's host comes before its own (RFC 6733, 5.6.4)
abbrev pub wins : Config → Bool
wins c = comes_later c.node.host c.peer
