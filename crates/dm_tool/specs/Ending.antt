-- The status with which the program ends, and its words for standard error.
use Rattle.std.specs.Prelude.{ℕ, List, [], Bool, true, false, Option, Some, None, Result, Ok, Err, codes}
use Rattle.dm_tool.specs.declared.fault.ToolFault.{ToolFault}
use Rattle.dm_tool.specs.declared.fault.ToolFault.TheVariants.{Read, Write, Memory}

-- for a run that ended in this way, or for words that choose no command
abbrev pub tool_ending : Option (Result Bool ToolFault) → ℕ × List ℕ
tool_ending None = (2, codes "dmpeer: usage")
tool_ending (Some (Ok true)) = (0, [])
tool_ending (Some (Ok false)) = (1, [])
tool_ending (Some (Err Read)) = (3, codes "dmpeer: read")
tool_ending (Some (Err Write)) = (3, codes "dmpeer: write")
tool_ending (Some (Err Memory)) = (3, codes "dmpeer: memory")
