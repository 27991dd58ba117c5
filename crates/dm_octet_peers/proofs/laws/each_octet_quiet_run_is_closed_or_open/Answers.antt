use Rattle.dm_octet_peers.proofs.ClosedOrOpen.{run_is_closed_or_open}
use Rattle.dm_octet_peers.proofs.laws.each_octet_quiet_run_is_closed_or_open.Goals as goal

pub returns : goal.returns
returns c =
    run_is_closed_or_open c.each_quiet_run_is_closed_or_open.ensures
    (record {
      machine = c.octet_peers_move_as_the_machine.ensures;
      closed = c.closed_peers_make_a_sound_world.ensures;
      sounds = c.each_happening_keeps_worlds_sound.ensures;
      fresh = c.octet_peers_begin_and_stay_paired.ensures.fresh;
      keeps = c.octet_peers_begin_and_stay_paired.ensures.kept;
    }) c.paired_octet_peers_hear_and_elect.ensures c.ceas_and_dpas_match_their_requests.ensures
