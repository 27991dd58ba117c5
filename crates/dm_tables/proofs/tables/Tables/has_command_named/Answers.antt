use Rattle.std.proofs.Common.{◌∙◌}
use Rattle.dm_tables.specs.Definitions.{is_titled}
use Rattle.dm_tables.proofs.Found.{is_found}
use Rattle.dm_tables.proofs.tables.Tables.has_command_named.Goals as goal

pub returns : goal.returns
returns c =
    c.is_some.ensures ∙ is_found (is_titled c.args.name.now) c.args.self.now.commands.items _ c.command_by_name.ensures
