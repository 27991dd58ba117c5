-- One direction of an association: what comes of the DATA chunks of its packets (RFC 9260, 3.3.1 and 8.5).
use Rattle.std.specs.Prelude.{◌≡◌, ◌<◌, ℕ, ◌+◌, ◌^◌, Option, None, List, [], ◌∷◌, ◌++◌, length}
use Rattle.std.specs.List.{sum_by}
use Rattle.std.specs.Option.{option_to_list}
use Rattle.dm_flows.specs.Sctps.{SeenData, AreData}
use Rattle.dm_association.specs.SctpFlows.{SctpFlowState, new_sctp_flow, waiting_in_flow, TakesChunk, LeavesChunk}

-- the Verification Tag of its packets, where it is known; what came of its chunks; and the messages that are whole and
-- weren't handed out yet
pub record SctpWayState : Type 0 where
  pub tag : Option ℕ
  pub flow : SctpFlowState
  pub ready : List (List ℕ)

-- nothing came
abbrev pub new_way : SctpWayState
new_way = record { tag = None; flow = new_sctp_flow; ready = [] }

-- how many octets those messages have
abbrev pub message_octets : List (List ℕ) → ℕ
message_octets ready = sum_by length ready

-- how many octets are held: those, and those that wait for others of their messages
abbrev pub way_octets : SctpWayState → ℕ
way_octets way = waiting_in_flow way.flow.window + message_octets way.ready

-- a DATA chunk came; a message that is whole with it can be handed out from now on
pub record WayTakesChunk (old : SctpWayState) (chunk : SeenData) (new : SctpWayState) : Type 0 where
  pub found : Option (List ℕ)
  pub takes : TakesChunk old.flow chunk found new.flow
  pub others : new ≡ record old { flow = new.flow; ready = old.ready ++ option_to_list found }

-- DATA chunks came, one behind the other
abbrev pub WayTakesChunks : SctpWayState → List SeenData → SctpWayState → Type 0
WayTakesChunks old [] new = old ≡ new
WayTakesChunks old (chunk ∷ chunks) new =
    (mid : SctpWayState) × WayTakesChunk old chunk mid × WayTakesChunks mid chunks new

-- the chunks of a packet came: its DATA chunks are taken, in their order
pub record WayTakes (old : SctpWayState) (octets : List ℕ) (new : SctpWayState) : Type 0 where
  pub chunks : List SeenData
  pub are : AreData octets chunks
  pub takes : WayTakesChunks old chunks new

-- what is left where memory is wanted: the chunks up to some were taken, and that one wasn't
pub record WayLeaves (old : SctpWayState) (octets : List ℕ) (new : SctpWayState) : Type 0 where
  pub taken : List SeenData
  pub chunk : SeenData
  pub later : List SeenData
  pub are : AreData octets (taken ++ chunk ∷ later)
  pub mid : SctpWayState
  pub takes : WayTakesChunks old taken mid
  pub leaves : LeavesChunk mid.flow chunk new.flow
  pub others : new ≡ record mid { flow = new.flow }

-- the next message is handed out
pub record HandsReady (old : SctpWayState) (message : List ℕ) (new : SctpWayState) : Type 0 where
  pub first : old.ready ≡ message ∷ new.ready
  pub others : new ≡ record old { ready = new.ready }

-- no message is whole
abbrev pub HandsNoneReady : SctpWayState → SctpWayState → Type 0
HandsNoneReady old new = (old.ready ≡ []) × (new ≡ old)

-- the number of octets is that of the messages; one message at most is there above 2^64 - 1 of them
pub record AreCounted (octets : ℕ) (ready : List (List ℕ)) : Type 0 where
  pub all : octets ≡ message_octets ready
  pub most : octets < 2 ^ 65
