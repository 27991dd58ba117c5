-- What is said of an input is the input's own.
use Rattle.std.specs.Prelude.{◌≡◌, ℕ, Bool, List}
use Rattle.dm_tables.specs.Definitions.{Definitions}
use Rattle.dm_view_lines.specs.declared.message_reports.Task.{Task}
use Rattle.dm_view_lines.specs.Colours.{SaysStyled}

-- under one dictionary one text at most is said of an input, and it is either good or not
abbrev pub OneSaid : Type 0
OneSaid =
    (coloured : Bool) (task : Task) (d : Definitions) (input text other : List ℕ) (good fine : Bool)
    → SaysStyled coloured task d input text good → SaysStyled coloured task d input other fine
    → (text ≡ other) × (good ≡ fine)

-- under each dictionary something is said of each input, and it is good or not
abbrev pub SomeSaid : Type 0
SomeSaid =
    (coloured : Bool) (task : Task) (d : Definitions) (input : List ℕ)
    → (text : List ℕ) × (good : Bool) × SaysStyled coloured task d input text good
