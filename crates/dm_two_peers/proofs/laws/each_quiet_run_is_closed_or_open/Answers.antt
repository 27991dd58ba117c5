use Rattle.dm_two_peers.proofs.RequestedQuiet.{run_settles}
use Rattle.dm_two_peers.proofs.laws.each_quiet_run_is_closed_or_open.Goals as goal

pub returns : goal.returns
returns g c =
    λ m r stands is match a b closed_a closed_b left right hs.
    run_settles m (record
    { changes = c.connection_changes_and_orders_are_allowed.ensures; keeps = c.steps_keep_shape_in_few_commands.ensures }) is r stands
    match a b (c.closed_peers_make_a_sound_world.ensures m a b closed_a closed_b) left right hs
