-- Lines with colours for a terminal (own; the sequences are those of ECMA-48, 8.3.117).
use Rattle.std.specs.Prelude.{◌≡◌, ℕ, Bool, true, false, ◌==◌, List, [], ◌∷◌, ◌++◌, codes, flat_map, if◌then◌else◌}
use Rattle.std.specs.Str.Lines.{lines}
use Rattle.dm_tables.specs.Definitions.{Definitions}
use Rattle.dm_view_lines.specs.declared.message_reports.Task.{Task}
use Rattle.dm_view_lines.specs.declared.message_reports.Task.TheVariants.{Show, Check}
use Rattle.dm_view_lines.specs.Frames.{SaysStream}
use Rattle.dm_view_lines.specs.Lines.{Says}

-- a line further in: an AVP is plain, and a fault red
abbrev pub further_in : Task → List ℕ
further_in Show = []
further_in Check = 27 ∷ codes "[31m"
further_in task = []

-- the first line of a message is bold
abbrev pub begun : Task → List ℕ → List ℕ
begun task [] = []
begun task (b ∷ s) = if b == 32 then further_in task else 27 ∷ codes "[1m"

abbrev pub line_coloured : Task → List ℕ → List ℕ
line_coloured task line = begun task line ++ (line ++ 27 ∷ codes "[0m" ++ 10 ∷ [])

abbrev pub in_colours : Task → List ℕ → List ℕ
in_colours task text = flat_map (line_coloured task) (lines text)

-- JSON has no colours
abbrev pub styled : Bool → Task → List ℕ → List ℕ
styled false task text = text
styled true Show text = in_colours Show text
styled true Check text = in_colours Check text
styled true task text = text

-- of these texts, with colours or without
abbrev pub SaysInStyle : Bool → Task → (List ℕ → Bool → Type 0) → List ℕ → Bool → Type 0
SaysInStyle coloured task Texts text good = (plain : List ℕ) × Texts plain good × (text ≡ styled coloured task plain)

-- what is said of an input, with colours or without, and whether none of its lines is bad
abbrev pub SaysStyled : Bool → Task → Definitions → List ℕ → List ℕ → Bool → Type 0
SaysStyled coloured task d input text good = SaysInStyle coloured task (Says task d input) text good

-- the same of the lines as one stream
abbrev pub SaysStreamStyled : Bool → Task → Definitions → List ℕ → List ℕ → Bool → Type 0
SaysStreamStyled coloured task d input text good = SaysInStyle coloured task (SaysStream task d input) text good
