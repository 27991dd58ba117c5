-- The command at its place.
use Rattle.std.proofs.Common.{◌∙◌, ap, slice_get}
use Rattle.std.specs.Option.{option_and_then}
use Rattle.dm_tables.specs.Definitions.{is_headed}
use Rattle.dm_dict.proofs.Standing.{found}
use Rattle.dm_dict.proofs.linked.Linked.linked_command.Goals as goal

pub returns-clause-def : goal.returns-clause-def
returns-clause-def c =
    let commands = c.args.self.now.tables.commands.items in
    c.linked_command_at.ensures.def ∙ ap (option_and_then (slice_get commands)) c.command_place.ensures ∙ found
    (is_headed c.args.code c.args.request c.args.err) commands
