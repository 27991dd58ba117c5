use Rattle.dm_two_peers.proofs.Delivers.{run_delivers}
use Rattle.dm_two_peers.proofs.laws.each_run_delivers_in_order.Goals as goal

pub returns : goal.returns
returns g c =
    λ m is_app stands is carries a b closed_a closed_b left right hs t k.
    run_delivers m (record
    { changes = c.connection_changes_and_orders_are_allowed.ensures; keeps = c.steps_keep_shape_in_few_commands.ensures }) is is_app
    stands
    carries a b (c.closed_peers_make_a_sound_world.ensures m a b closed_a closed_b) left right hs t k
