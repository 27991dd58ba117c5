-- The words that choose a command of the program.
use Rattle.std.specs.Prelude.{ℕ, List, [], ◌∷◌, codes, true, false}
use Rattle.dm_tool.specs.declared.choice.Choice.{Choice}
use Rattle.dm_tool.specs.declared.choice.Choice.TheVariants.{Show, Check, Build, Replay}

-- the words after the program's name that choose this command, and no others do
abbrev pub words_of : Choice → List (List ℕ)
words_of Show = codes "show" ∷ []
words_of (Check false) = codes "check" ∷ []
words_of (Check true) = codes "check" ∷ codes "--dict" ∷ []
words_of Build = codes "build" ∷ []
words_of Replay = codes "replay" ∷ []
