-- One neighbour more.
use Rattle.std.specs.Prelude.{Option, Some, List, [], ◌∷◌, ◌++◌}
use Rattle.dm_history.specs.History.{new_peer}
use Rattle.dm_peer.specs.declared.config.Config.{Config}
use Rattle.dm_peer.specs.declared.peer.Peer.{Peer}

-- a closed peer of the configuration, as `Peer::new` gives it, stands behind the others
abbrev pub with_new : List (Option Peer) → Config → List (Option Peer)
with_new ps c = ps ++ Some (new_peer c c.first_id) ∷ []
