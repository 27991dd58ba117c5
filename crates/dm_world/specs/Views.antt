-- A world as the laws of two peers see it.
use Rattle.std.specs.Prelude.{◌≡◌, ℕ, IsTrue, Bool, Option, Some, None, List, slice_get}
use Rattle.dm_peer.specs.declared.peer.Peer.{Peer}
use Rattle.dm_two_peers.specs.Links.{Side, Link}
use Rattle.dm_two_peers.specs.Happens.{own_view, happens}
use Rattle.dm_two_peers.specs.Worlds.{World, Put, After, DoneWith, Ignored, NoLink}
use Rattle.dm_world.specs.declared.fault.Effect.{Effect}
use Rattle.dm_world.specs.declared.fault.Effect.TheVariants as effect
use Rattle.dm_world.specs.declared.fault.WorldFault.{WorldFault}
use Rattle.dm_world.specs.declared.fault.WorldFault.TheVariants as world_fault
use Rattle.dm_world.specs.declared.net.Net.{Net}
use Rattle.dm_world.specs.declared.happening.Happening.{Happening}
use Rattle.dm_world.specs.Happening.{as_happening, may_want}
use Rattle.dm_octet_peers.specs.Octets.{octet_peers}
use Rattle.dm_world.specs.Seen.{as_links}

-- two peers over octets and the links between them
abbrev pub OctetWorld : Type 0
OctetWorld = World Peer (List ℕ)

abbrev pub as_world : Net → OctetWorld
as_world n = record { a = n.pair.a; b = n.pair.b; links = as_links n.links.items }

-- what is told has this effect: it is done, with some messages and disconnects put in; or it is ignored, and nothing
-- changes
abbrev pub Effects : Effect → After Peer (List ℕ) → OctetWorld → OctetWorld → Type 0
Effects effect.Done after old new = (put : List (Put (List ℕ))) × (after ≡ DoneWith new put)
Effects effect.Ignored after old new = (after ≡ Ignored) × (new ≡ old)

-- why there was no step: there is no such link, or memory is wanted, where some may be
abbrev pub IsFault : WorldFault → Bool → After Peer (List ℕ) → Type 0
IsFault world_fault.NoLink may_want after = after ≡ NoLink
IsFault world_fault.NoMemory may_want after = IsTrue may_want

-- the front message that comes to a side
abbrev pub front_of : Side → Option (Link (List ℕ)) → Option (List ℕ)
front_of s None = None
front_of s (Some l) = slice_get (own_view s l).incoming.messages 0

-- a run ended at a happening that is there, for this fault
abbrev pub IsEnd : WorldFault → Option Happening → OctetWorld → Type 0
IsEnd f None w = ⊥
IsEnd f (Some h) w = IsFault f (may_want w h) (happens octet_peers w (as_happening h))
