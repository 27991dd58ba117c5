use Rattle.dm_two_peers.proofs.Happenings.{happens_sound}
use Rattle.dm_two_peers.proofs.laws.each_happening_keeps_worlds_sound.Goals as goal

pub returns : goal.returns
returns g c =
    λ m is w h good. happens_sound m
    (record {
      changes = c.connection_changes_and_orders_are_allowed.ensures;
      keeps =
          c.steps_keep_shape_in_few_commands.ensures;
    }) is w h good
