-- What holds of every peer: a new one, and one after each event and each `reset`.
use Rattle.dm_peer.specs.declared.peer.Peer.{Peer}
use Rattle.dm_peer.specs.KeptAt.{IsKeptAt}

abbrev pub IsKept : Peer → Type 0
IsKept p = IsKeptAt p.standing
