-- Pieces of a capture that a reader gives.
use Rattle.std.specs.Prelude.{◌≡◌, ◌≢◌, ℕ, Bool, true, Option, None, Some, OnSome, List, [], ⊤}
use Rattle.std.specs.Io.KnownBytes.{Consumes, IsAtEnd, Keeps}
use Rattle.dm_capture.specs.declared.fault.CaptureFault.{CaptureFault}
use Rattle.dm_capture.specs.declared.front_item.Layout.TheVariants.{Start}
use Rattle.dm_capture.specs.Captures.{Progress, EndsWith}
use Rattle.dm_capture.specs.Laws.{with_piece}
use Rattle.dm_view_lines.specs.declared.run_fault.RunFault.{RunFault}
use Rattle.dm_view_lines.specs.declared.run_fault.RunFault.TheVariants.{Memory, Read}

-- what the reader had at hand was taken and fed; at its end that is nothing
pub record ReadsPiece (old : Progress) (given : Option (List ℕ)) (new : Progress) (left : Option (List ℕ)) (end : Bool)
    : Type 0 where
  pub piece : List ℕ
  pub read : Consumes given left piece
  pub fed : new ≡ with_piece old piece
  pub ends : end ≡ true → (piece ≡ []) × OnSome given (IsAtEnd left)

-- nothing was: the reader failed, or memory is wanted
abbrev pub IsOfFeeding : RunFault → Type 0
IsOfFeeding Memory = ⊤
IsOfFeeding (Read error) = ⊤
IsOfFeeding fault = ⊥

pub record ReadsNoPiece (fault : RunFault) (old : Progress) (given : Option (List ℕ)) (new : Progress)
    (left : Option (List ℕ)) : Type 0 where
  pub why : IsOfFeeding fault
  pub unread : Keeps given left
  pub same : new ≡ old

-- what is wrong where the file ends: nothing where all of it was read, and it is a capture
abbrev pub FileEnds : Progress → Option CaptureFault → Type 0
FileEnds end None = (end.octets ≡ []) × (end.layout ≢ Start)
FileEnds end (Some fault) = (fault.offset ≡ end.offset) × EndsWith end fault.kind
