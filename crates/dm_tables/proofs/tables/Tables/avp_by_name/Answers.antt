use Rattle.dm_tables.specs.Definitions.{is_named}
use Rattle.dm_tables.proofs.Places.{at_place}
use Rattle.dm_tables.proofs.tables.Tables.avp_by_name.Goals as goal

pub returns : goal.returns
returns c =
    rw (c.member_at.ensures, c.as_slice.ensures.value, c.avp_place_by_name.ensures)
    (at_place (is_named c.args.name.now) c.args.self.now.avps.items)
