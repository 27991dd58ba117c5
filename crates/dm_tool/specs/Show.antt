-- What show prints for an input, and whether all of it was good.
use Rattle.std.specs.Prelude.{ℕ, Bool, true, List}
use Rattle.dm_wire.specs.declared.message.Message.{Message}
use Rattle.dm_tool.specs.Text.{message_text}
use Rattle.dm_tool.specs.HexLines.{PrintsAll}

-- each message is printed as text, and is good
abbrev pub show_answer : Message → List ℕ × Bool
show_answer m = (message_text m, true)

-- what is printed for an input, and whether all of it is good
abbrev pub ShowsText : List ℕ → List ℕ → Bool → Type 0
ShowsText = PrintsAll show_answer
