-- What user messages are, whatever came.
use Rattle.std.specs.Prelude.{◌≡◌, ◌<◌, ◌≤◌, ◌+◌, ℕ, Option}
use Rattle.dm_association.specs.declared.marks.ChunkMarks.{ChunkMarks}
use Rattle.dm_association.specs.Fragments.{IsUserMessage}

-- a chunk is in one user message at most
abbrev pub OneUserMessage : Type 0
OneUserMessage =
    (seen : ℕ → Option ChunkMarks) (k first count begin size : ℕ)
    → IsUserMessage seen first count → first ≤ k → k < first + count
    → IsUserMessage seen begin size → begin ≤ k → k < begin + size
    → (first ≡ begin) × (count ≡ size)
