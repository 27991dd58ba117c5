-- The answer to a message under a task.
use Rattle.std.specs.Prelude.{ℕ, Bool, List}
use Rattle.dm_wire.specs.declared.message.Message.{Message}
use Rattle.dm_tool.specs.declared.messages.Task.{Task}
use Rattle.dm_tool.specs.declared.messages.Task.TheVariants.{Show, Check}
use Rattle.dm_tool.specs.Show.{show_answer}
use Rattle.dm_tool.specs.Check.{check_answer}

abbrev pub answer_of : Task → Message → List ℕ × Bool
answer_of Show = show_answer
answer_of (Check dictionary) = check_answer dictionary.now
