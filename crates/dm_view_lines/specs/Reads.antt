-- What is said of octets as they are read, piece by piece.
use Rattle.std.specs.Prelude.{◌≡◌, ◌≢◌, ℕ, Bool, true, Option, IfSome, All, List, [], ◌++◌}
use Rattle.std.specs.Str.Lines.{lines}
use Rattle.std.specs.Io.KnownBytes.{Appends, Consumes}
use Rattle.dm_view_lines.specs.declared.put_fault.PutFault.{PutFault}
use Rattle.dm_view_lines.specs.declared.put_fault.PutFault.TheVariants as put
use Rattle.dm_view_lines.specs.declared.run_fault.RunFault.{RunFault}
use Rattle.dm_view_lines.specs.declared.run_fault.RunFault.TheVariants.{Memory, Read, TooLong, Write}
use Rattle.dm_view_lines.specs.LineEnds.{HasLineEnds, ended}
use Rattle.dm_view_lines.specs.Turns.{SaysInTurn, TellsLines, StopsInTurn}

-- of octets behind what is held of a line: the lines that they end are said, and what is left is held; or those up to
-- one behind which it goes no further
pub record TellsPiece {S : Type 0} (style : List ℕ → List ℕ) (Says : S → ℕ → List ℕ → S → List ℕ → Type 0) (n : ℕ)
    (a : S) (held octets : List ℕ) (m : ℕ) (b : S) (going : Bool) (holds : List ℕ) (old : Option (List ℕ))
    (waits : List ℕ) (new : Option (List ℕ)) (left : List ℕ) : Type 0 where
  pub whole : List ℕ
  pub behind : List ℕ
  pub parts : held ++ octets ≡ whole ++ behind
  pub ends : HasLineEnds whole
  pub tells : TellsLines style Says n a (lines whole) m b going old waits new left
  pub rest : going ≡ true → behind ≡ holds

-- and where the run stops by this fault
pub record BreaksPiece {S : Type 0} (style : List ℕ → List ℕ) (Says : S → ℕ → List ℕ → S → List ℕ → Type 0) (n : ℕ)
    (a : S) (held octets : List ℕ) (fault : PutFault) (old : Option (List ℕ)) (waits : List ℕ)
    (new : Option (List ℕ)) (left : List ℕ) : Type 0 where
  pub whole : List ℕ
  pub behind : List ℕ
  pub parts : held ++ octets ≡ whole ++ behind
  pub ends : HasLineEnds whole
  pub breaks : StopsInTurn style Says n a (lines whole) behind fault old waits new left

-- The reader failed. Of all that it gave before the lines that end there are said and written, and what is left is of
-- one line.
pub record SaysRead {S : Type 0} (style : List ℕ → List ℕ) (Says : S → ℕ → List ℕ → S → List ℕ → Type 0) (n : ℕ)
    (a : S) (given left : Option (List ℕ)) (old new : Option (List ℕ)) : Type 0 where
  pub whole : List ℕ
  pub held : List ℕ
  pub read : Consumes given left (whole ++ held)
  pub ends : HasLineEnds whole
  pub one_line : All (λ b. b ≢ 10) held
  pub said : S
  pub text : List ℕ
  pub turns : SaysInTurn style Says n a (lines whole) said text
  pub written : Appends old new text

-- a run over a reader stops by this fault
abbrev pub StopsRun : {S : Type 0} → (List ℕ → List ℕ) → (S → ℕ → List ℕ → S → List ℕ → Type 0) → ℕ → S → RunFault
    → Option (List ℕ) → Option (List ℕ) → Option (List ℕ) → Option (List ℕ) → Type 0
StopsRun style Says n a (Read error) given left old new = SaysRead style Says n a given left old new
StopsRun style Says n a Memory given left old new =
    IfSome given (λ octets. StopsInTurn style Says n a (lines (ended octets)) [] put.Memory old [] new [])
StopsRun style Says n a (TooLong number) given left old new =
    IfSome given (λ octets. StopsInTurn style Says n a (lines (ended octets)) [] (put.TooLong number) old [] new [])
StopsRun style Says n a (Write error) given left old new =
    IfSome given (λ octets. StopsInTurn style Says n a (lines (ended octets)) [] (put.Write error) old [] new [])
