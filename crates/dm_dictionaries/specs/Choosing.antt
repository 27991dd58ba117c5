-- Which dictionary judges a message (RFC 6733, 2.4 and 3; that an application may have one of its own is own).
use Rattle.std.specs.Prelude.{ℕ, nat_eq, List, Option, None, Some, if◌then◌else◌}
use Rattle.std.specs.Map.{lookup}
use Rattle.dm_wire.specs.declared.message.Header.{Header}
use Rattle.dm_tables.specs.Definitions.{Definitions}
use Rattle.dm_tables.specs.Base.{base_definitions}
use Rattle.dm_base.specs.Commands.{is_base_command}

-- the definitions of each application that has its own, by its Application-ID, and those of all others
pub record Choices : Type 0 where
  pub others : Definitions
  pub own : List (ℕ × Definitions)

abbrev pub own_definitions : Choices → ℕ → Option Definitions
own_definitions c application = lookup (nat_eq application) c.own

abbrev pub own_or_other : Definitions → Option Definitions → Definitions
own_or_other others None = others
own_or_other others (Some d) = d

-- the definitions of an application
abbrev pub definitions_of : Choices → ℕ → Definitions
definitions_of c application = own_or_other c.others (own_definitions c application)

-- those by which a message is judged: the base ones for a base command (5.3 to 5.5), else those of its application
abbrev pub judging : Choices → Header → Definitions
judging c h = if is_base_command h.command then base_definitions else definitions_of c h.application
