use Rattle.dm_tables.specs.Definitions.{is_coded}
use Rattle.dm_tables.proofs.Places.{at_place}
use Rattle.dm_tables.proofs.tables.Tables.avp_by_code.Goals as goal

pub returns : goal.returns
returns c =
    rw (c.member_at.ensures, c.as_slice.ensures.value, c.avp_place_by_code.ensures)
    (at_place (is_coded c.args.code c.args.vendor) c.args.self.now.avps.items)
