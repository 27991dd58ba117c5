-- What a command answers is the input's own.
use Rattle.std.specs.Prelude.{◌≡◌, ℕ, Bool, List}
use Rattle.dm_tool.specs.declared.choice.Choice.{Choice}
use Rattle.dm_tool.specs.Run.{Prints}

-- under one command an input has at most one text, and is either good or not
abbrev pub OneText : Type 0
OneText =
    (choice : Choice) (input text other : List ℕ) (good fine : Bool) → Prints choice input text good →
    Prints choice input other fine
    → (text ≡ other) × (good ≡ fine)

-- under each command an input has a text, and is good or not
abbrev pub SomeText : Type 0
SomeText = (choice : Choice) (input : List ℕ) → (text : List ℕ) × (good : Bool) × Prints choice input text good
