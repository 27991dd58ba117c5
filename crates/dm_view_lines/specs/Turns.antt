-- What is said of lines in turn, as they are read, and what of it is written.
use Rattle.std.specs.Prelude.{◌≡◌, ◌≢◌, ◌<◌, ◌≤◌, ◌⊎◌, ℕ, ◌+◌, Bool, true, Option, Result, Ok, Err, ⊤}
use Rattle.std.specs.Prelude.{All, List, [], ◌∷◌, ◌++◌, length}
use Rattle.std.specs.Io.KnownBytes.{Appends, Keeps}
use Rattle.dm_view_lines.specs.declared.put_fault.PutFault.{PutFault}
use Rattle.dm_view_lines.specs.declared.put_fault.PutFault.TheVariants.{Memory, TooLong, Write}
use Rattle.dm_view_lines.specs.declared.gathered_lines.TheConstants.{LINE_LIMIT as line_limit}

-- lines behind so many others, each said in turn and in this style; none has too many octets
abbrev pub SaysInTurn : {S : Type 0} → (List ℕ → List ℕ) → (S → ℕ → List ℕ → S → List ℕ → Type 0) → ℕ → S
    → List (List ℕ) → S → List ℕ → Type 0
SaysInTurn style Says n a [] b text = (b ≡ a) × (text ≡ [])
SaysInTurn {S} style Says n a (line ∷ lines) b text =
    (m : S) × (first others : List ℕ) × Says a (n + 1) line m first × SaysInTurn style Says (n + 1) m lines b others
    × (text ≡ style first ++ others) × (length line ≤ line_limit)

-- a text behind what waited: a front of it is written, and the rest waits
abbrev pub Gathers : Option (List ℕ) → List ℕ → Option (List ℕ) → List ℕ → List ℕ → Type 0
Gathers old waits new left text = (front : List ℕ) × (waits ++ text ≡ front ++ left) × Appends old new front

-- a front of a text is written
abbrev pub WritesFront : Option (List ℕ) → Option (List ℕ) → List ℕ → Type 0
WritesFront old new text = (front back : List ℕ) × (text ≡ front ++ back) × Appends old new front

-- where a run stops by this fault: at a failed write a front of a text behind what waited is written, and otherwise it
-- is gathered
abbrev pub Leaves : PutFault → Option (List ℕ) → List ℕ → Option (List ℕ) → List ℕ → List ℕ → Type 0
Leaves (Write error) old waits new left text = WritesFront old new (waits ++ text)
Leaves fault old waits new left text = Gathers old waits new left text

-- where a text can't be gathered, nothing of it is, unless it was a write that failed
abbrev pub text_left : PutFault → List ℕ → List ℕ
text_left (Write error) text = text
text_left fault text = []

-- a failed write, of this text
abbrev pub FailsToWrite : PutFault → Option (List ℕ) → Option (List ℕ) → List ℕ → Type 0
FailsToWrite (Write error) old new text = WritesFront old new text
FailsToWrite fault old new text = ⊥

-- want of memory, or a failed write
abbrev pub IsOfOutput : PutFault → Type 0
IsOfOutput Memory = ⊤
IsOfOutput (Write error) = ⊤
IsOfOutput fault = ⊥

-- octets that begin a line which has too many, whatever comes behind them
abbrev pub BeginsLong : List ℕ → Type 0
BeginsLong s = All (λ b. b ≢ 10) s × (line_limit + 1 < length s)

-- the first of these lines has too many octets; where there is none, what is held begins such a line
abbrev pub FirstIsLong : List (List ℕ) → List ℕ → Type 0
FirstIsLong [] held = BeginsLong held
FirstIsLong (line ∷ lines) held = line_limit < length line

-- the line behind so many others, the first of these, has too many octets, where that is why
abbrev pub CountsLong : PutFault → ℕ → List (List ℕ) → List ℕ → Type 0
CountsLong (TooLong number) n rest held = (number ≡ n + 1) × FirstIsLong rest held
CountsLong fault n rest held = ⊤

-- these lines are said in turn, or those up to one behind which it goes no further; what is said is gathered
pub record TellsLines {S : Type 0} (style : List ℕ → List ℕ) (Says : S → ℕ → List ℕ → S → List ℕ → Type 0) (n : ℕ)
    (a : S) (lines : List (List ℕ)) (m : ℕ) (b : S) (going : Bool) (old : Option (List ℕ)) (waits : List ℕ)
    (new : Option (List ℕ)) (left : List ℕ) : Type 0 where
  pub done : List (List ℕ)
  pub rest : List (List ℕ)
  pub parts : lines ≡ done ++ rest
  pub all : going ≡ true → rest ≡ []
  pub text : List ℕ
  pub turns : SaysInTurn style Says n a done b text
  pub number : m ≡ n + length done
  pub gathered : Gathers old waits new left text

-- a front of these lines, behind which this is held, is said, and the run stops by this fault
pub record StopsInTurn {S : Type 0} (style : List ℕ → List ℕ) (Says : S → ℕ → List ℕ → S → List ℕ → Type 0) (n : ℕ)
    (a : S) (lines : List (List ℕ)) (held : List ℕ) (fault : PutFault) (old : Option (List ℕ)) (waits : List ℕ)
    (new : Option (List ℕ)) (left : List ℕ) : Type 0 where
  pub done : List (List ℕ)
  pub rest : List (List ℕ)
  pub parts : lines ≡ done ++ rest
  pub said : S
  pub text : List ℕ
  pub turns : SaysInTurn style Says n a done said text
  pub long : CountsLong fault (n + length done) rest held
  pub leaves : Leaves fault old waits new left text

-- what came of writing what waits behind what was put
abbrev pub Settles : Result Bool PutFault → Result Bool PutFault → Option (List ℕ) → Option (List ℕ) → List ℕ → Type 0
Settles (Ok going) (Ok more) old new waits = (more ≡ going) × Appends old new waits
Settles (Ok going) (Err fault) old new waits = FailsToWrite fault old new waits
Settles (Err fault) (Ok more) old new waits = ⊥
Settles (Err (Write error)) (Err other) old new waits = (other ≡ Write error) × Keeps old new
Settles (Err fault) (Err other) old new waits =
    ((other ≡ fault) × Appends old new waits) ⊎ FailsToWrite other old new waits
