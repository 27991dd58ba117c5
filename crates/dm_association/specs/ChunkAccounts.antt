-- Where each octet of user data is that came in one direction of an association.
use Rattle.std.specs.Prelude.{◌≡◌, ◌⊎◌, ℕ, ◌+◌, ◌-◌, ◌^◌, min, Option, List, [], ◌∷◌, ◌++◌, length}
use Rattle.std.specs.List.{concat}
use Rattle.std.specs.Option.{option_to_list}
use Rattle.dm_flows.specs.Sctps.{SeenData}
use Rattle.dm_association.specs.declared.chunk_place.ChunkPlace.{ChunkPlace}
use Rattle.dm_association.specs.declared.chunk_place.ChunkPlace.TheVariants.{Repeated}
use Rattle.dm_association.specs.SctpFlows.{SctpFlowState, new_sctp_flow, waiting_in_flow, association_left}
use Rattle.dm_association.specs.SctpFlows.{begun_at_tsn, place_in_flow, TakesChunk}

-- all that happened: the direction as it is, how many octets of user data came, how many of them came before, and the
-- messages that were handed out
pub record ChunkAccount : Type 0 where
  pub flow : SctpFlowState
  pub came : ℕ
  pub again : ℕ
  pub messages : List (List ℕ)

abbrev pub begun_chunk_account : ChunkAccount
begun_chunk_account = record { flow = new_sctp_flow; came = 0; again = 0; messages = [] }

-- how many octets of a chunk came before, by where it belongs: its TSN counts once
abbrev pub octets_again : ChunkPlace → SeenData → ℕ
octets_again Repeated chunk = length chunk.user_data
octets_again place chunk = 0

-- a chunk came and was taken
pub record BringsChunk (old new : ChunkAccount) : Type 0 where
  pub chunk : SeenData
  pub found : Option (List ℕ)
  pub takes : TakesChunk old.flow chunk found new.flow
  pub came : new.came ≡ old.came + length chunk.user_data
  pub again : new.again ≡ old.again + octets_again (place_in_flow old.flow.window chunk) chunk
  pub messages : new.messages ≡ old.messages ++ option_to_list found

-- an association began or ended
pub record BringsAssociation (old new : ChunkAccount) : Type 0 where
  pub turns : ((tsn : ℕ) × (new.flow ≡ begun_at_tsn old.flow tsn)) ⊎ (new.flow ≡ association_left old.flow)
  pub came : new.came ≡ old.came
  pub again : new.again ≡ old.again
  pub messages : new.messages ≡ old.messages

-- one after the other, in whatever order
abbrev pub ChunkAccountsFollow : ChunkAccount → List ChunkAccount → ChunkAccount → Type 0
ChunkAccountsFollow old [] new = old ≡ new
ChunkAccountsFollow old (next ∷ later) new =
    (BringsChunk old next ⊎ BringsAssociation old next) × ChunkAccountsFollow next later new

-- each octet is in a message, waits, came before, was passed over, of which there were so many, or is of Diameter over
-- DTLS
pub record IsChunkAccounted (now : ChunkAccount) : Type 0 where
  pub lost : ℕ
  pub hidden : ℕ
  pub passed : now.flow.passed ≡ min lost (2 ^ 64 - 1)
  pub secured : now.flow.secured ≡ min hidden (2 ^ 64 - 1)
  pub came : now.came
      ≡ length (concat now.messages) + waiting_in_flow now.flow.window + now.again + lost + hidden

abbrev pub EachChunkIsAccounted : Type 0
EachChunkIsAccounted =
    (later : List ChunkAccount) (now : ChunkAccount) → ChunkAccountsFollow begun_chunk_account later now
    → IsChunkAccounted now
