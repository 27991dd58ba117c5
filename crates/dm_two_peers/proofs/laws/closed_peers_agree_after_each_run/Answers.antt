use Rattle.dm_two_peers.specs.Laws.{world_of}
use Rattle.dm_two_peers.proofs.Promise.{run_promised}
use Rattle.dm_two_peers.proofs.laws.closed_peers_agree_after_each_run.Goals as goal

pub returns : goal.returns
returns g c =
    λ m is a b closed_a closed_b list.
    run_promised m (record
    { changes = c.connection_changes_and_orders_are_allowed.ensures; keeps = c.steps_keep_shape_in_few_commands.ensures }) is
    (world_of a b) list
    (c.closed_peers_make_a_sound_world.ensures m a b closed_a closed_b)
