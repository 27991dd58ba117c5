-- What the two users of a world get of each other: each message once, and in order.
use Rattle.std.specs.Prelude.{ℕ, List, map}
use Rattle.dm_peer.specs.declared.config.Config.{Config}
use Rattle.dm_two_peers.specs.Delivery.{submitted_on, handed_up_on, has_loss_of, DeliversInOrder}
use Rattle.dm_two_peers.specs.Laws.{world_of}
use Rattle.dm_two_peers.specs.Links.{Side}
use Rattle.dm_two_peers.specs.Turns.{WorldTurn, all_turns}
use Rattle.dm_octet_peers.specs.Carrying.{is_app}
use Rattle.dm_octet_peers.specs.Laws.{fresh_peer}
use Rattle.dm_octet_peers.specs.Octets.{octet_peers}
use Rattle.dm_world.specs.declared.happening.Happening.{Happening}
use Rattle.dm_world.specs.Happening.{as_happening}
use Rattle.dm_world.specs.Settling.{RanTo}
use Rattle.dm_world.specs.Views.{OctetWorld}

-- two new peers of these configurations, without links
abbrev pub new_world : Config → Config → OctetWorld
new_world a b = world_of (fresh_peer a) (fresh_peer b)

-- two new peers of these configurations came to a world by these happenings: its past
abbrev pub IsPast : OctetWorld → Config → Config → List Happening → Type 0
IsPast w a b past = RanTo (new_world a b) past w

pub record HasPast (w : OctetWorld) : Type 0 where
  pub a : Config
  pub b : Config
  pub past : List Happening
  pub is : IsPast w a b past

-- what the peers were told and did at happenings from the beginning on
abbrev pub turns_in : Config → Config → List Happening → List (WorldTurn (List ℕ))
turns_in a b past = all_turns octet_peers (new_world a b) (map as_happening past)

-- what was handed up to a side on a link is a front of what the other side submitted on it; where the side is open on
-- it and it was never lost, the rest is under way
abbrev pub DeliversSubmitted : Config → Config → List Happening → OctetWorld → Side → ℕ → Type 0
DeliversSubmitted a b past w t c =
    DeliversInOrder octet_peers is_app w t c (has_loss_of c (map as_happening past))
    (submitted_on t c (turns_in a b past)) (handed_up_on t c (turns_in a b past))
