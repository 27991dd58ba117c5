use Rattle.dm_octet_peers.proofs.CanOpen.{run_can_open}
use Rattle.dm_octet_peers.proofs.laws.each_octet_run_can_restart_and_open.Goals as goal

pub returns : goal.returns
returns c =
    run_can_open
    (record {
      machine = c.octet_peers_move_as_the_machine.ensures;
      closed = c.closed_peers_make_a_sound_world.ensures;
      sounds = c.each_happening_keeps_worlds_sound.ensures;
      fresh = c.octet_peers_begin_and_stay_paired.ensures.fresh;
      keeps = c.octet_peers_begin_and_stay_paired.ensures.kept;
    }) c.each_octet_world_can_restart_and_open.ensures
