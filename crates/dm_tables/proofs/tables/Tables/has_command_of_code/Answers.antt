use Rattle.std.proofs.Common.{◌∙◌}
use Rattle.dm_tables.specs.Definitions.{is_headed}
use Rattle.dm_tables.proofs.Found.{is_found}
use Rattle.dm_tables.proofs.tables.Tables.has_command_of_code.Goals as goal

pub returns : goal.returns
returns c =
    c.is_some.ensures ∙ is_found
    (is_headed c.args.code c.args.request c.args.err) c.args.self.now.commands.items _ c.command_by_code.ensures
