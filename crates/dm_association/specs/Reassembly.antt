-- What is handed out of a direction, while its association isn't left, are the user messages of its chunks.
use Rattle.std.specs.Prelude.{◌≡◌, ◌≢◌, ℕ, ◌+◌, ◌%◌, ◌^◌, ◌<◌, ◌≤◌, nat_eq, if◌then◌else◌, Option, None, Some}
use Rattle.std.specs.Prelude.{List, [], ◌∷◌, ◌++◌, map, slice_get}
use Rattle.std.specs.List.Sorted.{IsPermutation}
use Rattle.std.specs.Option.{option_to_list}
use Rattle.dm_flows.specs.Order.{number_near}
use Rattle.dm_flows.specs.Sctps.{SeenData}
use Rattle.dm_flows.specs.Windows.{ahead}
use Rattle.dm_association.specs.declared.chunk_place.ChunkPlace.TheVariants.{Astray}
use Rattle.dm_association.specs.declared.marks.ChunkMarks.{ChunkMarks}
use Rattle.dm_association.specs.Fragments.{chunk_marks, IsUserMessage, user_message}
use Rattle.dm_association.specs.SctpFlows.{SctpFlowState, is_clear_text, place_in_flow, TakesChunk}
use Rattle.dm_association.specs.TsnWindows.{TsnWindowState, begun_window}

-- a chunk that came, with the number of its TSN: numbers go on where TSNs begin anew
pub record NumberedChunk : Type 0 where
  pub number : ℕ
  pub chunk : SeenData

-- the chunk with a number that came first, of those in the order in which they came
abbrev pub chunk_numbered : List NumberedChunk → ℕ → Option SeenData
chunk_numbered [] k = None
chunk_numbered (one ∷ more) k = if nat_eq one.number k then Some one.chunk else chunk_numbered more k

-- what is told of it, where it is of Diameter
abbrev pub marks_read : Option SeenData → Option ChunkMarks
marks_read None = None
marks_read (Some chunk) = if is_clear_text chunk.payload_protocol then Some (chunk_marks chunk) else None

abbrev pub octets_read : Option SeenData → List ℕ
octets_read None = []
octets_read (Some chunk) = chunk.user_data

abbrev pub marks_numbered : List NumberedChunk → ℕ → Option ChunkMarks
marks_numbered arrivals k = marks_read (chunk_numbered arrivals k)

abbrev pub octets_numbered : List NumberedChunk → ℕ → List ℕ
octets_numbered arrivals k = octets_read (chunk_numbered arrivals k)

-- a user message: the number of its first chunk, and how many it has
pub record NumberedMessage : Type 0 where
  pub first : ℕ
  pub count : ℕ

abbrev pub message_numbered : List NumberedChunk → NumberedMessage → List ℕ
message_numbered arrivals m = user_message (octets_numbered arrivals) m.first m.count

abbrev pub IsAmongMessages : List NumberedMessage → NumberedMessage → Type 0
IsAmongMessages messages m = (i : ℕ) × (slice_get messages i ≡ Some m)

-- messages are just the user messages of chunks from a number on, each once
pub record AreUserMessages (base : ℕ) (arrivals : List NumberedChunk) (messages : List (List ℕ)) : Type 0 where
  pub numbered : List NumberedMessage
  pub says : messages ≡ map (message_numbered arrivals) numbered
  pub each : (m : NumberedMessage) → IsAmongMessages numbered m →
      (base ≤ m.first) × IsUserMessage (marks_numbered arrivals) m.first m.count
  pub all : (m : NumberedMessage) → base ≤ m.first → IsUserMessage (marks_numbered arrivals) m.first m.count →
      IsAmongMessages numbered m
  pub once : (i j : ℕ) (m : NumberedMessage) → slice_get numbered i ≡ Some m → slice_get numbered j ≡ Some m → i ≡ j

-- all that happened since an association began: the number of the first TSN that isn't done, the direction as it is,
-- the chunks that came, and the messages that were handed out
pub record ChunkPassage : Type 0 where
  pub number : ℕ
  pub flow : SctpFlowState
  pub arrivals : List NumberedChunk
  pub messages : List (List ℕ)

-- an association began with the TSN of this number
pub record BeginsChunks (base : ℕ) (p : ChunkPassage) : Type 0 where
  pub number : p.number ≡ base
  pub window : p.flow.window ≡ Some (begun_window (base % 2 ^ 32))
  pub arrivals : p.arrivals ≡ []
  pub messages : p.messages ≡ []

abbrev pub first_tsn : Option TsnWindowState → ℕ
first_tsn None = 0
first_tsn (Some window) = window.next

-- a chunk came, and the association wasn't left
pub record ChunksGoOn (old new : ChunkPassage) : Type 0 where
  pub chunk : SeenData
  pub found : Option (List ℕ)
  pub takes : TakesChunk old.flow chunk found new.flow
  pub stays : place_in_flow old.flow.window chunk ≢ Astray
  pub fits : chunk.tsn < 2 ^ 32
  pub number : new.number ≡ old.number + ahead (first_tsn old.flow.window) (first_tsn new.flow.window)
  pub arrivals : new.arrivals
      ≡ old.arrivals ++ record { number = number_near old.number chunk.tsn; chunk = chunk } ∷ []
  pub messages : new.messages ≡ old.messages ++ option_to_list found

-- one after the other
abbrev pub ChunksFollow : ChunkPassage → List ChunkPassage → ChunkPassage → Type 0
ChunksFollow old [] new = old ≡ new
ChunksFollow old (next ∷ later) new = ChunksGoOn old next × ChunksFollow next later new

abbrev pub EachUserMessageIsHandedOut : Type 0
EachUserMessageIsHandedOut =
    (base : ℕ) (begun : ChunkPassage) (later : List ChunkPassage) (now : ChunkPassage) → 2 ^ 32 ≤ base
    → BeginsChunks base begun → ChunksFollow begun later now → AreUserMessages base now.arrivals now.messages

-- a chunk is among those that came
abbrev pub IsAmongChunks : List NumberedChunk → NumberedChunk → Type 0
IsAmongChunks arrivals x = (i : ℕ) × (slice_get arrivals i ≡ Some x)

-- those of one number are the same chunk
abbrev pub AgreeOnChunks : List NumberedChunk → Type 0
AgreeOnChunks arrivals =
    (x y : NumberedChunk) → IsAmongChunks arrivals x → IsAmongChunks arrivals y → x.number ≡ y.number
    → x.chunk ≡ y.chunk

-- whatever the order and the repetitions, the messages are the same where chunks agree
abbrev pub OrderOfChunksChangesNothing : Type 0
OrderOfChunksChangesNothing =
    (base : ℕ) (arrivals others : List NumberedChunk) (messages said : List (List ℕ))
    → ((x : NumberedChunk) → IsAmongChunks arrivals x → IsAmongChunks others x)
    → ((x : NumberedChunk) → IsAmongChunks others x → IsAmongChunks arrivals x)
    → AgreeOnChunks arrivals → AreUserMessages base arrivals messages → AreUserMessages base others said
    → IsPermutation messages said
