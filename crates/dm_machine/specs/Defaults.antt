-- The default of a command.
use Rattle.std.specs.Prelude.{◌≡◌}
use Rattle.dm_machine.specs.declared.outputs.Command.{Command}
use Rattle.dm_machine.specs.declared.outputs.Command.TheVariants.{Close}

-- it closes connection 0
abbrev pub IsDefaultCommand : Command → Type 0
IsDefaultCommand c = c ≡ Close (record { 0 = 0 })
