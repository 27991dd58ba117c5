-- Where each octet of user data is that came in one direction of an association, with the messages that wait.
use Rattle.std.specs.Prelude.{◌≡◌, ◌⊎◌, ℕ, ◌+◌, ◌-◌, ◌^◌, min, List, [], ◌∷◌, ◌++◌, length}
use Rattle.std.specs.List.{concat}
use Rattle.dm_association.specs.ChunkAccounts.{octets_again}
use Rattle.dm_association.specs.SctpFlows.{association_left, begun_at_tsn, place_in_flow}
use Rattle.dm_associations.specs.Ways.{SctpWayState, new_way, way_octets, WayTakesChunk, HandsReady}
use Rattle.dm_flows.specs.Sctps.{SeenData}

-- all that happened: the direction as it is, how many octets of user data came, how many of them came before, and the
-- messages that were handed out
pub record WayAccount : Type 0 where
  pub way : SctpWayState
  pub came : ℕ
  pub again : ℕ
  pub handed : List (List ℕ)

abbrev pub begun_way_account : WayAccount
begun_way_account = record { way = new_way; came = 0; again = 0; handed = [] }

-- a DATA chunk came and was taken
pub record WayBringsChunk (old new : WayAccount) : Type 0 where
  pub chunk : SeenData
  pub takes : WayTakesChunk old.way chunk new.way
  pub came : new.came ≡ old.came + length chunk.user_data
  pub again : new.again ≡ old.again + octets_again (place_in_flow old.way.flow.window chunk) chunk
  pub handed : new.handed ≡ old.handed

-- an association began or ended, or a tag came to be known
pub record WayTurns (old new : WayAccount) : Type 0 where
  pub turns : ((tsn : ℕ) × (new.way.flow ≡ begun_at_tsn old.way.flow tsn))
      ⊎ ((new.way.flow ≡ association_left old.way.flow) ⊎ (new.way.flow ≡ old.way.flow))
  pub ready : new.way.ready ≡ old.way.ready
  pub came : new.came ≡ old.came
  pub again : new.again ≡ old.again
  pub handed : new.handed ≡ old.handed

-- a message was handed out
pub record WayHandsOut (old new : WayAccount) : Type 0 where
  pub message : List ℕ
  pub hands : HandsReady old.way message new.way
  pub came : new.came ≡ old.came
  pub again : new.again ≡ old.again
  pub handed : new.handed ≡ old.handed ++ message ∷ []

-- one after the other, in whatever order
abbrev pub WayAccountsFollow : WayAccount → List WayAccount → WayAccount → Type 0
WayAccountsFollow old [] new = old ≡ new
WayAccountsFollow old (next ∷ later) new =
    (WayBringsChunk old next ⊎ (WayTurns old next ⊎ WayHandsOut old next)) × WayAccountsFollow next later new

-- each octet is in a message that was handed out or can be, waits, came before, was passed over, of which there were so
-- many, or is of Diameter over DTLS
pub record IsWayAccounted (now : WayAccount) : Type 0 where
  pub lost : ℕ
  pub hidden : ℕ
  pub passed : now.way.flow.passed ≡ min lost (2 ^ 64 - 1)
  pub secured : now.way.flow.secured ≡ min hidden (2 ^ 64 - 1)
  pub came : now.came ≡ length (concat now.handed) + way_octets now.way + now.again + lost + hidden

abbrev pub EachWayOctetIsAccounted : Type 0
EachWayOctetIsAccounted =
    (later : List WayAccount) (now : WayAccount) → WayAccountsFollow begun_way_account later now → IsWayAccounted now
