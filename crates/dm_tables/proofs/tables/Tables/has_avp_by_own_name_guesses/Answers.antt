use Rattle.std.proofs.Common.{◌∙◌, ap, is_some}
use Rattle.dm_tables.specs.Definitions.{is_named}
use Rattle.dm_tables.proofs.Found.{has_place}
use Rattle.dm_tables.proofs.tables.Tables.has_avp_by_own_name_guesses.Goals as goal

pub returns : goal.returns
returns c =
    c.is_some.ensures ∙ ap is_some c.avp_place_by_own_name_guesses.ensures ∙ has_place
    (is_named c.args.name.now) 0 c.args.self.now.avps.items
