-- What came of the TSNs of one direction of an association (RFC 9260, 3.3.1, 6.2 and 6.9).
use Rattle.std.specs.Prelude.{◌≡◌, ◌<◌, ◌≤◌, ◌+◌, ℕ, suc, nat_eq, nat_lt, nat_le, min, max, if◌then◌else◌}
use Rattle.std.specs.Prelude.{Bool, true, false, ◌&&◌, Option, None, Some, List, [], ◌++◌, length, replicate}
use Rattle.std.specs.Prelude.{slice_index_or}
use Rattle.std.specs.List.{sum_by}
use Rattle.dm_flows.specs.Windows.{ahead, sequence_behind}
use Rattle.dm_association.specs.declared.chunk_place.ChunkPlace.{ChunkPlace}
use Rattle.dm_association.specs.declared.chunk_place.ChunkPlace.TheVariants.{Wanted, Repeated, Astray}
use Rattle.dm_association.specs.declared.marks.ChunkMarks.{ChunkMarks}
use Rattle.dm_association.specs.declared.tsn_state.TsnState.{TsnState}
use Rattle.dm_association.specs.declared.tsn_state.TsnState.TheVariants.{Missing, Done, Held}
use Rattle.dm_association.specs.Fragments.{FragmentState, IsUserMessage, user_message}

-- the first TSN that isn't done, and what came of the TSNs from it on
pub record TsnWindowState : Type 0 where
  pub next : ℕ
  pub tsns : List TsnState

-- nothing came, and this TSN is the first
abbrev pub begun_window : ℕ → TsnWindowState
begun_window tsn = record { next = tsn; tsns = [] }

-- what came of the TSN that is so many behind the first
abbrev pub tsn_at : List TsnState → ℕ → TsnState
tsn_at tsns k = slice_index_or tsns k Missing

abbrev pub is_missing : TsnState → Bool
is_missing Missing = true
is_missing state = false

abbrev pub is_tsn_done : TsnState → Bool
is_tsn_done Done = true
is_tsn_done state = false

abbrev pub held_marks : TsnState → Option ChunkMarks
held_marks (Held fragment) = Some fragment.marks
held_marks state = None

abbrev pub slot_octets : TsnState → List ℕ
slot_octets (Held fragment) = fragment.octets
slot_octets state = []

-- how many octets wait
abbrev pub waiting_octets : List TsnState → ℕ
waiting_octets tsns = sum_by (λ state. length (slot_octets state)) tsns

-- what waits, and among it a chunk at its place
abbrev pub marks_with : List TsnState → ℕ → ChunkMarks → ℕ → Option ChunkMarks
marks_with tsns at own k = if nat_eq k at then Some own else held_marks (tsn_at tsns k)

abbrev pub octets_with : List TsnState → ℕ → List ℕ → ℕ → List ℕ
octets_with tsns at own k = if nat_eq k at then own else slot_octets (tsn_at tsns k)

-- TSNs are compared modulo 2^32. A chunk may be less than 65,536 TSNs behind the first, and at most 1,024 behind the
-- last of which something came
abbrev pub reach : List TsnState → ℕ
reach tsns = min 65536 (length tsns + 1024)

-- of a missing TSN it is wanted, where no more than 1,048,576 octets wait with it
abbrev pub place_within : TsnWindowState → ℕ → ℕ → ChunkPlace
place_within window at size =
    if is_missing (tsn_at window.tsns at)
    then (if nat_le (waiting_octets window.tsns + size) 1048576 then Wanted at else Astray)
    else Repeated

-- up to 65,536 TSNs before the first it is a repetition
abbrev pub place_before : ℕ → ℕ → ChunkPlace
place_before next tsn = if nat_le (ahead tsn next) 65536 then Repeated else Astray

-- where a chunk with this TSN and so many octets belongs
abbrev pub chunk_place : TsnWindowState → ℕ → ℕ → ChunkPlace
chunk_place window tsn size =
    if nat_lt (ahead window.next tsn) (reach window.tsns) then place_within window (ahead window.next tsn) size
    else place_before window.next tsn

-- so many TSNs in front are done, and no more kept
pub record PassesFront (old new : TsnWindowState) : Type 0 where
  pub count : ℕ
  pub tsns : old.tsns ≡ replicate count Done ++ new.tsns
  pub next : new.next ≡ sequence_behind old.next count

-- up to the first that isn't done
pub record PassesDone (old new : TsnWindowState) : Type 0 where
  pub passes : PassesFront old new
  pub all : is_tsn_done (tsn_at new.tsns 0) ≡ false

-- so many TSNs from the first on are done
pub record AreDone (old : List TsnState) (first count : ℕ) (new : List TsnState) : Type 0 where
  pub len : length new ≡ max (first + count) (length old)
  pub each : (k : ℕ) →
      tsn_at new k ≡ (if nat_le first k && nat_lt k (first + count) then Done else tsn_at old k)

-- and those in front are no more kept
pub record FinishesTsns (old : TsnWindowState) (first count : ℕ) (new : TsnWindowState) : Type 0 where
  pub mid : List TsnState
  pub done : AreDone old.tsns first count mid
  pub passes : PassesDone (record old { tsns = mid }) new

-- a chunk at a place completes a user message, which is handed out
pub record CompletesMessage (old : TsnWindowState) (at : ℕ) (chunk : FragmentState) (message : List ℕ)
    (new : TsnWindowState) : Type 0 where
  pub first : ℕ
  pub count : ℕ
  pub before : first ≤ at
  pub behind : at < first + count
  pub whole : IsUserMessage (marks_with old.tsns at chunk.marks) first count
  pub says : message ≡ user_message (octets_with old.tsns at chunk.octets) first count
  pub finishes : FinishesTsns old first count new

-- no user message has this chunk and no other but those that wait
abbrev pub CompletesNone : List TsnState → ℕ → ChunkMarks → Type 0
CompletesNone tsns at own =
    (first count : ℕ) → first ≤ at → at < first + count → IsUserMessage (marks_with tsns at own) first count → ⊥

-- a fragment was put at its place
pub record PutsFragment (old : TsnWindowState) (at : ℕ) (chunk : FragmentState) (new : TsnWindowState) : Type 0 where
  pub next : new.next ≡ old.next
  pub len : length new.tsns ≡ max (suc at) (length old.tsns)
  pub each : (k : ℕ) → tsn_at new.tsns k ≡ (if nat_eq k at then Held chunk else tsn_at old.tsns k)

-- a chunk at a place waits for others
pub record HoldsFragment (old : TsnWindowState) (at : ℕ) (chunk : FragmentState) (new : TsnWindowState) : Type 0 where
  pub part : CompletesNone old.tsns at chunk.marks
  pub puts : PutsFragment old at chunk new

-- there is room for a chunk at a place
pub record HasRoomAt (window : TsnWindowState) (at size : ℕ) : Type 0 where
  pub missing : is_missing (tsn_at window.tsns at) ≡ true
  pub near : at < 65536
  pub fits : waiting_octets window.tsns + size ≤ 1048576

-- so many octets wait, and no more than may be kept
pub record IsWithinLimits (tsns : List TsnState) (waiting : ℕ) : Type 0 where
  pub octets : waiting ≡ waiting_octets tsns
  pub most : waiting ≤ 1048576
  pub span : length tsns ≤ 65536
