use Rattle.std.proofs.Common.{◌∙◌, ap, is_some}
use Rattle.dm_tables.specs.Definitions.{is_coded}
use Rattle.dm_tables.proofs.Found.{has_place}
use Rattle.dm_tables.proofs.tables.Tables.has_avp_of_code.Goals as goal

pub returns : goal.returns
returns c =
    c.is_some.ensures ∙ ap is_some c.indexed_avp_place_by_code.ensures ∙ has_place
    (is_coded c.args.code c.args.vendor) 0 c.args.self.now.avps.items
