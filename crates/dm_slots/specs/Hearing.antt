-- What is taken of a piece that came: a whole message that is told where it lies, or what the first message wants.
use Rattle.std.specs.Prelude.{◌≡◌, ◌≤◌, ◌<◌, ℕ, true, false, Option, None, Some, List, [], ◌++◌, length, take, drop}
use Rattle.dm_framer.specs.Frames.{IsFrame, BeginsWithFrame, BeginsWithNoFrame}
use Rattle.dm_slots.specs.Intakes.{Intake}

-- nothing is kept of what came, nor thrown away, and the piece begins with this whole message
pub record IsWholeIn (i : Intake) (piece message rest : List ℕ) : Type 0 where
  pub whole : i.is_broken ≡ false
  pub none_kept : i.octets ≡ []
  pub frame : IsFrame i.max message
  pub piece_is : piece ≡ message ++ rest

-- there is none
abbrev pub IsNotWhole : Intake → List ℕ → Type 0
IsNotWhole i piece = i.is_broken ≡ false → i.octets ≡ [] → BeginsWithNoFrame i.max piece

-- the whole message takes so many octets of the piece, on a connection that is there
pub record IsWholeAt (o : Option Intake) (piece : List ℕ) (size : ℕ) : Type 0 where
  pub intake : Intake
  pub there : o ≡ Some intake
  pub within : size ≤ length piece
  pub front : IsWholeIn intake piece (take size piece) (drop size piece)

-- Of a piece just as many octets are taken as complete the first message behind what is kept: all where it isn't whole
-- with fewer, and where what comes is thrown away.
pub record TakesFront (i : Intake) (piece : List ℕ) (size : ℕ) : Type 0 where
  pub within : size ≤ length piece
  pub front : size < length piece → BeginsWithFrame i.max (i.octets ++ take size piece)
  pub least : i.is_broken ≡ false → (k : ℕ) → k < size → BeginsWithNoFrame i.max (i.octets ++ take k piece)
  pub thrown : i.is_broken ≡ true → size ≡ length piece

-- all where the connection isn't there
abbrev pub TakesFrontAt : Option Intake → List ℕ → ℕ → Type 0
TakesFrontAt None piece size = size ≡ length piece
TakesFrontAt (Some i) piece size = TakesFront i piece size

-- a whole message that is told where it lies is what is taken of its piece
abbrev pub WholeIsTaken : Type 0
WholeIsTaken = (o : Option Intake) (piece : List ℕ) (size : ℕ) → IsWholeAt o piece size → TakesFrontAt o piece size
