-- A neighbour taken out, or set back.
use Rattle.std.specs.Prelude.{ℕ, Option, None, List, option_map, map}
use Rattle.std.specs.Prelude.{slice_set}
use Rattle.dm_peer.specs.Acts.{standing_at}
use Rattle.dm_peer.specs.After.{fresh_standing}
use Rattle.dm_peer.specs.declared.peer.Peer.{Peer}
use Rattle.dm_node.specs.Holding.{peer_at}

-- nobody has the number any more
abbrev pub without_peer : List (Option Peer) → ℕ → List (Option Peer)
without_peer ps i = slice_set ps i None

-- back to Closed, with no connections, its numbers going on
abbrev pub set_back : Peer → Peer
set_back p = standing_at p (fresh_standing p.standing.next)

-- the neighbour of the number is set back
abbrev pub with_set_back : List (Option Peer) → ℕ → List (Option Peer)
with_set_back ps i = slice_set ps i (option_map set_back (peer_at ps i))

-- each neighbour is set back
abbrev pub all_set_back : List (Option Peer) → List (Option Peer)
all_set_back ps = map (option_map set_back) ps
