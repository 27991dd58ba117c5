use Rattle.dm_tables.specs.Definitions.{is_headed}
use Rattle.dm_tables.proofs.Places.{at_place}
use Rattle.dm_tables.proofs.tables.Tables.command_by_code.Goals as goal

pub returns : goal.returns
returns c =
    rw (c.member_at.ensures, c.as_slice.ensures.value, c.command_place.ensures)
    (at_place (is_headed c.args.code c.args.request c.args.err) c.args.self.now.commands.items)
