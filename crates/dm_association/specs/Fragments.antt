-- User messages and their fragments (RFC 9260, 3.3.1 and 6.9).
use Rattle.std.specs.Prelude.{◌≡◌, ◌<◌, ◌≤◌, ◌+◌, ℕ, zero, suc, nat_eq, Option, Some, List, [], ◌++◌}
use Rattle.dm_flows.specs.Sctps.{SeenData}
use Rattle.dm_association.specs.declared.marks.ChunkMarks.{ChunkMarks}

-- a fragment of a user message, or all of one: its bits and its stream, and its octets
pub record FragmentState : Type 0 where
  pub marks : ChunkMarks
  pub octets : List ℕ

abbrev pub chunk_marks : SeenData → ChunkMarks
chunk_marks chunk = record { beginning = chunk.beginning; ending = chunk.ending; stream = chunk.stream }

-- what a DATA chunk carries
abbrev pub fragment_of : SeenData → FragmentState
fragment_of chunk = record { marks = chunk_marks chunk; octets = chunk.user_data }

-- of so many chunks from the first on, the first alone has the B bit, and the last alone the E bit
abbrev pub marks_in_message : ℕ → ℕ → ℕ → ℕ → ChunkMarks
marks_in_message first count stream k = record {
  beginning = nat_eq k first;
  ending = nat_eq (suc k) (first + count);
  stream = stream;
}

-- so many chunks from the first on, with one TSN after the other, are a user message: none is missing, and all are of
-- one stream
pub record IsUserMessage (seen : ℕ → Option ChunkMarks) (first count : ℕ) : Type 0 where
  pub stream : ℕ
  pub some : 0 < count
  pub each : (k : ℕ) → first ≤ k → k < first + count → seen k ≡ Some (marks_in_message first count stream k)

-- what it says: the octets of the chunks, one behind the other
abbrev pub user_message : (ℕ → List ℕ) → ℕ → ℕ → List ℕ
user_message octets first zero = []
user_message octets first (suc n) = user_message octets first n ++ octets (first + n)
