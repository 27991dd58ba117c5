use Rattle.std.proofs.Common.{◌∙◌, ◌<◌, ap, is_some, length}
use Rattle.std.specs.List.{list_any}
use Rattle.dm_tables.specs.Listed.{has_number}
use Rattle.dm_tables.proofs.Found.{has_place}
use Rattle.dm_tables.proofs.values.Values.index_has_number.Goals as goal

pub returns : goal.returns
returns c =
    let long : 8 < length c.self.inside.items.items = rw (← c.self.view_is) at c.requires in
    c.contains_key.ensures
    ∙ ap is_some (c.self.invariant long c.args.number.now)
    ∙ has_place (has_number c.args.number.now) 0 c.self.inside.items.items
    ∙ ap (list_any (has_number c.args.number.now)) c.self.view_is
