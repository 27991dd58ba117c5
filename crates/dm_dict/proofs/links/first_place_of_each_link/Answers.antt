-- One link more.
use Rattle.std.proofs.Common.{Some, nat_eq, ap}
use Rattle.std.specs.Option.{option_eq}
use Rattle.dm_dict.specs.Rows.{has_link}
use Rattle.dm_dict.proofs.Noting.{place_step}
use Rattle.dm_dict.proofs.links.first_place_of_each_link.Goals as goal

pub loop-place-preserved : goal.loop-place-preserved
loop-place-preserved c = λ k.
    place_step (has_link (Some k)) c.args.rows.now c.loop-place.place _ _ _ _ c.loop-place-test.true
    (ap (option_eq nat_eq (Some k)) c.linked_place.ensures) (c.loop-place.invariant k) (c.in_ok-note_first_place.ensures k)
