-- One direction of an association: what comes of its DATA chunks (RFC 9260, 3.3.1 and 6.9; RFC 6733, 2.1.1).
use Rattle.std.specs.Prelude.{◌≡◌, ◌⊎◌, ℕ, nat_eq, nat_le, Bool, true, false, ◌&&◌, ◌||◌, if◌then◌else◌}
use Rattle.std.specs.Prelude.{Option, None, Some, List, length}
use Rattle.dm_flows.specs.Flows.{more_passed}
use Rattle.dm_flows.specs.Sctps.{SeenData}
use Rattle.dm_association.specs.declared.chunk_place.ChunkPlace.{ChunkPlace}
use Rattle.dm_association.specs.declared.chunk_place.ChunkPlace.TheVariants.{Wanted, Repeated, Astray}
use Rattle.dm_association.specs.Fragments.{fragment_of}
use Rattle.dm_association.specs.TsnWindows.{TsnWindowState, begun_window, waiting_octets, chunk_place, HasRoomAt}
use Rattle.dm_association.specs.TsnWindows.{CompletesMessage, HoldsFragment, FinishesTsns}

-- what came of the TSNs, where it is known with which one they begin; how many octets were passed over; and how many of
-- Diameter over DTLS
pub record SctpFlowState : Type 0 where
  pub window : Option TsnWindowState
  pub passed : ℕ
  pub secured : ℕ

-- nothing came
abbrev pub new_sctp_flow : SctpFlowState
new_sctp_flow = record { window = None; passed = 0; secured = 0 }

-- RFC 6733, 11.5: 46 is Diameter, which some send without an identifier (RFC 9260, 3.3.1: 0)
abbrev pub is_clear_text : ℕ → Bool
is_clear_text protocol = nat_eq protocol 46 || nat_eq protocol 0

-- and 47 is Diameter over DTLS
abbrev pub is_secured : ℕ → Bool
is_secured protocol = nat_eq protocol 47

-- a chunk isn't read: its octets are counted, up to 2^64 - 1, those of Diameter over DTLS apart
abbrev pub without_chunk : SeenData → SctpFlowState → SctpFlowState
without_chunk chunk flow =
    if is_secured chunk.payload_protocol
    then record flow { secured = more_passed flow.secured (length chunk.user_data) }
    else record flow { passed = more_passed flow.passed (length chunk.user_data) }

-- how many octets wait
abbrev pub waiting_in_flow : Option TsnWindowState → ℕ
waiting_in_flow None = 0
waiting_in_flow (Some window) = waiting_octets window.tsns

-- the association is left: what waits is passed over
abbrev pub association_left : SctpFlowState → SctpFlowState
association_left flow = record flow {
  window = None;
  passed = more_passed flow.passed (waiting_in_flow flow.window);
}

-- an association begins with this TSN
abbrev pub begun_at_tsn : SctpFlowState → ℕ → SctpFlowState
begun_at_tsn flow tsn = record (association_left flow) { window = Some (begun_window tsn) }

-- where a chunk belongs
abbrev pub place_in_flow : Option TsnWindowState → SeenData → ChunkPlace
place_in_flow None chunk = Astray
place_in_flow (Some window) chunk = chunk_place window chunk.tsn (length chunk.user_data)

-- its place is free
abbrev pub HasRoomInFlow : Option TsnWindowState → ℕ → ℕ → Type 0
HasRoomInFlow None at size = ⊥
HasRoomInFlow (Some window) at size = HasRoomAt window at size

-- a fragment came, and a user message is whole with it or isn't
abbrev pub TakesFragment : TsnWindowState → ℕ → SeenData → Option (List ℕ) → TsnWindowState → Type 0
TakesFragment before at chunk None after = HoldsFragment before at (fragment_of chunk) after
TakesFragment before at chunk (Some message) after = CompletesMessage before at (fragment_of chunk) message after

-- a chunk of Diameter was taken at its place
pub record ReadsChunk (old : SctpFlowState) (at : ℕ) (chunk : SeenData) (found : Option (List ℕ))
    (new : SctpFlowState) : Type 0 where
  pub before : TsnWindowState
  pub after : TsnWindowState
  pub known : old.window ≡ Some before
  pub clear : is_clear_text chunk.payload_protocol ≡ true
  pub takes : TakesFragment before at chunk found after
  pub others : new ≡ record old { window = Some after }

-- a chunk of another protocol was passed over
pub record PassesChunk (old : SctpFlowState) (at : ℕ) (chunk : SeenData) (found : Option (List ℕ))
    (new : SctpFlowState) : Type 0 where
  pub before : TsnWindowState
  pub after : TsnWindowState
  pub known : old.window ≡ Some before
  pub other : is_clear_text chunk.payload_protocol ≡ false
  pub finishes : FinishesTsns before at 1 after
  pub none : found ≡ None
  pub others : new ≡ without_chunk chunk (record old { window = Some after })

abbrev pub TakesWanted : SctpFlowState → ℕ → SeenData → Option (List ℕ) → SctpFlowState → Type 0
TakesWanted old at chunk found new = ReadsChunk old at chunk found new ⊎ PassesChunk old at chunk found new

-- an association that is come upon begins with a chunk that begins a user message
abbrev pub may_begin_with : SeenData → Bool
may_begin_with chunk = chunk.beginning && nat_le (length chunk.user_data) 1048576

-- the association is left, and begins anew with a chunk, or the chunk is passed over too
abbrev pub BeginsWithChunk : SctpFlowState → SeenData → Option (List ℕ) → SctpFlowState → Type 0
BeginsWithChunk old chunk found new =
    ((may_begin_with chunk ≡ true) × TakesWanted (begun_at_tsn old chunk.tsn) 0 chunk found new)
    ⊎ ((may_begin_with chunk ≡ false) × (found ≡ None) × (new ≡ without_chunk chunk (association_left old)))

abbrev pub TakesAt : ChunkPlace → SctpFlowState → SeenData → Option (List ℕ) → SctpFlowState → Type 0
TakesAt (Wanted at) old chunk found new = TakesWanted old at chunk found new
TakesAt Repeated old chunk found new = (new ≡ old) × (found ≡ None)
TakesAt Astray old chunk found new = BeginsWithChunk old chunk found new

-- a DATA chunk came, and a user message is handed out or none
abbrev pub TakesChunk : SctpFlowState → SeenData → Option (List ℕ) → SctpFlowState → Type 0
TakesChunk old chunk found new = TakesAt (place_in_flow old.window chunk) old chunk found new

-- what is left where memory is wanted: all as it was, or an association that begins with the chunk, which wasn't taken
abbrev pub LeavesChunk : SctpFlowState → SeenData → SctpFlowState → Type 0
LeavesChunk old chunk new =
    (new ≡ old)
    ⊎ ((place_in_flow old.window chunk ≡ Astray) × (may_begin_with chunk ≡ true)
    × (new ≡ begun_at_tsn old chunk.tsn))
