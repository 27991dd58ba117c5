use Rattle.std.proofs.Common.{◌≡◌, ◌<◌, length, slice_get, find, ap, ◌∙◌}
use Rattle.std.specs.List.{position_from}
use Rattle.std.specs.Option.{option_and_then}
use Rattle.dm_tables.specs.Listed.{has_number}
use Rattle.dm_tables.proofs.Places.{at_place}
use Rattle.dm_tables.proofs.values.Values.indexed_first_value_of_number.Goals as goal

pub returns : goal.returns
returns c =
    let long : 8 < length c.self.inside.items.items = rw (← c.self.view_is) at c.requires in
    let test = has_number c.args.number.now in
    let values = c.self.inside.items.items in
    let place : c.copied-place.result ≡ position_from test 0 values =
    c.copied-place.ensures ∙ c.get.ensures.value
    ∙ c.self.invariant long c.args.number.now in
    c.member_at.ensures
    ∙ (λ i. option_and_then (slice_get (c.as_slice.ensures.value i)) (place i))
    ∙ at_place test values
    ∙ ap (find test) c.self.view_is
