-- How a run over a reader stops before its end.
use Rattle.std.specs.Prelude.{◌≡◌, ◌≢◌, ◌<◌, ◌⊎◌, ℕ, ◌+◌, Bool, Option, IfSome, All, List, [], ◌∷◌, ◌++◌, length, ⊤}
use Rattle.std.specs.Io.KnownBytes.{Appends, Consumes, Keeps}
use Rattle.std.specs.Str.Lines.{lines}
use Rattle.dm_framer.specs.declared.fault.FrameFault.{FrameFault}
use Rattle.dm_tables.specs.Definitions.{Definitions}
use Rattle.dm_view_lines.specs.declared.run_fault.RunFault.{RunFault}
use Rattle.dm_view_lines.specs.declared.run_fault.RunFault.TheVariants.{Memory, Read, TooLong, Write}
use Rattle.dm_view_lines.specs.declared.message_reports.Task.{Task}
use Rattle.dm_view_lines.specs.declared.tally.Tally.{Tally}
use Rattle.dm_view_lines.specs.declared.gathered_lines.TheConstants.{LINE_LIMIT as line_limit}
use Rattle.dm_view_lines.specs.Colours.{styled, SaysStyled, SaysStreamStyled}
use Rattle.dm_view_lines.specs.Frames.{SaysFrames, stream_of}
use Rattle.dm_view_lines.specs.Lines.{SaysLines}
use Rattle.dm_view_lines.specs.LineEnds.{HasLineEnds, ended}
use Rattle.dm_view_lines.specs.Turns.{WritesFront}

-- what is said of lines, each by itself
abbrev pub SaysFront : Bool → Task → Definitions → List (List ℕ) → List ℕ → Type 0
SaysFront coloured task d lines text =
    (plain : List ℕ) × (tally : Tally) × SaysLines task d 1 lines plain tally × (text ≡ styled coloured task plain)

-- what is said of the whole messages of lines as one stream
abbrev pub SaysStreamFront : Bool → Task → Definitions → List (List ℕ) → List ℕ → Type 0
SaysStreamFront coloured task d lines text =
    (plain rest : List ℕ) × (fault : Option FrameFault) × (tally : Tally)
    × SaysFrames task d 1 (stream_of lines) rest fault plain tally × (text ≡ styled coloured task plain)

-- of lines behind so many others the first has too many octets, where that is why
abbrev pub IsTooLong : RunFault → ℕ → List (List ℕ) → Type 0
IsTooLong (TooLong number) n [] = ⊥
IsTooLong (TooLong number) n (line ∷ rest) = (number ≡ n + 1) × (line_limit < length line)
IsTooLong fault n rest = ⊤

-- a text is written; where the writer failed a front of it
abbrev pub WritesUpTo : RunFault → Option (List ℕ) → Option (List ℕ) → List ℕ → Type 0
WritesUpTo (Write error) old new text = WritesFront old new text
WritesUpTo fault old new text = Appends old new text

-- by this fault the run stops behind some of all lines, and what is said of these is written
pub record StopsBehind (Front : List (List ℕ) → List ℕ → Type 0) (fault : RunFault) (all : List (List ℕ))
    (old new : Option (List ℕ)) : Type 0 where
  pub done : List (List ℕ)
  pub rest : List (List ℕ)
  pub parts : all ≡ done ++ rest
  pub long : IsTooLong fault (length done) rest
  pub text : List ℕ
  pub said : Front done text
  pub written : WritesUpTo fault old new text

-- the reader failed: of all that it gave before, what is said of the lines that end there is written, and the rest is a
-- piece of one line
pub record FailsBehind (Front : List (List ℕ) → List ℕ → Type 0) (given left old new : Option (List ℕ)) : Type 0 where
  pub whole : List ℕ
  pub held : List ℕ
  pub read : Consumes given left (whole ++ held)
  pub ends : HasLineEnds whole
  pub one_line : All (λ b. b ≢ 10) held
  pub text : List ℕ
  pub said : Front (lines whole) text
  pub written : Appends old new text

-- a front of one of these texts is written
abbrev pub WritesSome : (List ℕ → Bool → Type 0) → Option (List ℕ) → Option (List ℕ) → Type 0
WritesSome Texts old new =
    (front back : List ℕ) × (good : Bool) × Texts (front ++ back) good × Appends old new front

-- a run over what a reader gives stops by this fault
abbrev pub EndsRun : (List (List ℕ) → List ℕ → Type 0) → (List ℕ → List ℕ → Bool → Type 0) → RunFault
    → Option (List ℕ) → Option (List ℕ) → Option (List ℕ) → Option (List ℕ) → Type 0
EndsRun Front Whole (Read error) given left old new = FailsBehind Front given left old new
EndsRun Front Whole (Write error) given left old new =
    IfSome given (λ octets. StopsBehind Front (Write error) (lines (ended octets)) old new
    ⊎ WritesSome (Whole (ended octets)) old new)
EndsRun Front Whole Memory given left old new =
    IfSome given (λ octets. StopsBehind Front Memory (lines (ended octets)) old new)
EndsRun Front Whole (TooLong number) given left old new =
    IfSome given (λ octets. StopsBehind Front (TooLong number) (lines (ended octets)) old new)

-- of lines
abbrev pub EndsLines : Bool → Task → Definitions → RunFault → Option (List ℕ) → Option (List ℕ) → Option (List ℕ)
    → Option (List ℕ) → Type 0
EndsLines coloured task d fault given left old new =
    EndsRun (SaysFront coloured task d) (SaysStyled coloured task d) fault given left old new

-- of lines as one stream
abbrev pub EndsStream : Bool → Task → Definitions → RunFault → Option (List ℕ) → Option (List ℕ) → Option (List ℕ)
    → Option (List ℕ) → Type 0
EndsStream coloured task d fault given left old new =
    EndsRun (SaysStreamFront coloured task d) (SaysStreamStyled coloured task d) fault given left old new

-- what ends a text isn't written: for want of memory nothing of it, and by a failed write a front of it
abbrev pub FailsAtEnd : RunFault → Option (List ℕ) → Option (List ℕ) → List ℕ → Type 0
FailsAtEnd (Write error) old new text = WritesFront old new text
FailsAtEnd Memory old new text = Keeps old new
FailsAtEnd (Read error) old new text = ⊥
FailsAtEnd (TooLong number) old new text = ⊥
