use Rattle.dm_octet_peers.proofs.Electing.{octets_are_electing}
use Rattle.dm_octet_peers.proofs.laws.paired_octet_peers_hear_and_elect.Goals as goal

pub returns : goal.returns
returns c =
    octets_are_electing
    (record {
      steps = c.few_steps_stand_for_all.ensures;
      shape = c.steps_keep_shape_in_few_commands.ensures;
      both = c.applications_are_common_by_shared_id_or_relay.ensures.both;
      cer = c.requests_and_successes_are_heard_as_good.ensures.cer;
      cea = c.requests_and_successes_are_heard_as_good.ensures.cea;
    })
