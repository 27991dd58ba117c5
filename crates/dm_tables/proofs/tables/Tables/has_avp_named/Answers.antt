use Rattle.std.proofs.Common.{◌∙◌}
use Rattle.dm_tables.specs.Definitions.{is_named}
use Rattle.dm_tables.proofs.Found.{is_found}
use Rattle.dm_tables.proofs.tables.Tables.has_avp_named.Goals as goal

pub returns : goal.returns
returns c = c.is_some.ensures ∙ is_found (is_named c.args.name.now) c.args.self.now.avps.items _ c.avp_by_name.ensures
