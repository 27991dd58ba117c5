-- The lines of a script that stand for something: that of the peer A, that of the peer B, and happenings.
use Rattle.std.specs.Prelude.{◌≡◌, ◌⊎◌, ⊤, ℕ, zero, suc, ◌+◌, false, length, List, [], ◌∷◌, ◌++◌}
use Rattle.std.specs.Str.Lines.{lines}
use Rattle.dm_text.specs.Lines.{content, content_lines, trimmed, is_skipped}
use Rattle.dm_world.specs.declared.side.Side.TheVariants.{A, B}
use Rattle.dm_world.specs.declared.happening.Happening.{Happening}
use Rattle.dm_replay.specs.HappeningLines.{TellsHappening}
use Rattle.dm_replay.specs.HostLines.{Host, TellsHost}

-- the lines tell the happenings, each line one
abbrev pub TellsEach : List Happening → List (List ℕ) → Type 0
TellsEach [] [] = ⊤
TellsEach [] (line ∷ lines) = ⊥
TellsEach (h ∷ list) [] = ⊥
TellsEach (h ∷ list) (line ∷ lines) = TellsHappening h line × TellsEach list lines

-- the text is a script of these two peers and these happenings
pub record TellsScript (left right : Host) (list : List Happening) (text : List ℕ) : Type 0 where
  pub first : List ℕ
  pub second : List ℕ
  pub rest : List (List ℕ)
  pub whole : content_lines text ≡ first ∷ second ∷ rest
  pub tells_left : TellsHost A left first
  pub tells_right : TellsHost B right second
  pub tells_list : TellsEach list rest

-- the line may stand behind so many others
abbrev pub MayStandBehind : ℕ → List ℕ → Type 0
MayStandBehind zero line = (h : Host) × TellsHost A h line
MayStandBehind (suc zero) line = (h : Host) × TellsHost B h line
MayStandBehind (suc (suc n)) line = (h : Happening) × TellsHappening h line

-- the lines may stand one behind the other, the first behind n others
abbrev pub MayFollow : ℕ → List (List ℕ) → Type 0
MayFollow n [] = ⊤
MayFollow n (line ∷ lines) = MayStandBehind n line × MayFollow (suc n) lines

-- line n, where the first has number 1, is the first that may not stand where it does
pub record BreaksAt (text : List ℕ) (n : ℕ) : Type 0 where
  pub before : List (List ℕ)
  pub line : List ℕ
  pub after : List (List ℕ)
  pub whole : lines text ≡ before ++ line ∷ after
  pub stands : is_skipped (trimmed line) ≡ false
  pub good : MayFollow 0 (content before)
  pub bad : MayStandBehind (length (content before)) (trimmed line) → ⊥
  pub number : n ≡ length before + 1

-- the text ends behind the line of its first peer, and n is its last line
pub record BreaksOff (text : List ℕ) (n : ℕ) : Type 0 where
  pub line : List ℕ
  pub whole : content_lines text ≡ line ∷ []
  pub good : MayStandBehind 0 line
  pub number : n ≡ length (lines text)

-- the first bad line of a text
abbrev pub IsFirstBad : List ℕ → ℕ → Type 0
IsFirstBad text n = BreaksAt text n ⊎ BreaksOff text n
