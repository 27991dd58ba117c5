-- Fragments with one TSN after the other that may belong to one user message.
use Rattle.std.specs.Prelude.{◌≡◌, ◌<◌, ◌≤◌, ◌+◌, ℕ, nat_eq, max, ◌&&◌, Some, List, length}
use Rattle.dm_association.specs.declared.marks.ChunkMarks.{ChunkMarks}
use Rattle.dm_association.specs.declared.message_around.ChunkRun.{ChunkRun}
use Rattle.dm_association.specs.declared.tsn_state.TsnState.{TsnState}
use Rattle.dm_association.specs.TsnWindows.{marks_with}

-- the first of them alone may have the B bit, the last alone the E bit
abbrev pub marks_in_run : ChunkRun → ℕ → ℕ → ChunkMarks
marks_in_run run stream k = record {
  beginning = nat_eq k run.first && run.begun;
  ending = nat_eq k run.last && run.ended;
  stream = stream;
}

-- fragments around a place, all there
pub record IsRunAround (tsns : List TsnState) (at : ℕ) (own : ChunkMarks) (run : ChunkRun) : Type 0 where
  pub left : run.first ≤ at
  pub right : at ≤ run.last
  pub most : run.last < max (at + 1) (length tsns)
  pub each : (k : ℕ) → run.first ≤ k → k ≤ run.last →
      marks_with tsns at own k ≡ Some (marks_in_run run own.stream k)
