use Rattle.std.proofs.Common.{ap, ◌+◌}
use Rattle.dm_tables.proofs.Numbers.{place_noted}
use Rattle.dm_tables.proofs.values.first_places_by_number.Goals as goal

pub loop-value-preserved : goal.loop-value-preserved
loop-value-preserved c = (
  ap (λ n. n + 1) c.loop-value.invariant.0,
  λ n. place_noted c.args.values.now c.loop-value.value-index _ c.value-item.result c.loop-value.places.entries
      c.note_first_place.new.places.entries n c.loop-value.place
      c.loop-value-test.true c.loop-value.invariant.0 c.value-item.is (c.loop-value.invariant.1 n) c.in_ok-note_first_place.ensures,
)
