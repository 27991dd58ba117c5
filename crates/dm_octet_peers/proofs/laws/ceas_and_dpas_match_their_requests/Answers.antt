use Rattle.dm_octet_peers.proofs.MatchingPeers.{octets_match}
use Rattle.dm_octet_peers.proofs.laws.ceas_and_dpas_match_their_requests.Goals as goal

pub returns : goal.returns
returns c =
    octets_match
    (record {
      steps = record {
        steps = c.few_steps_stand_for_all.ensures;
        changes = c.connection_changes_and_orders_are_allowed.ensures;
        form = c.shaped_cores_have_eight_forms.ensures.formed;
        apart = c.connection_orders_are_its_commands.ensures.apart;
        closes = c.messages_do_the_same_where_unread.ensures.rejected;
        messages = record {
          cer = c.built_messages_have_spellings.ensures.cer;
          cea = c.built_messages_have_spellings.ensures.cea;
          dpr = c.built_messages_have_spellings.ensures.dpr;
          answer = c.built_messages_have_spellings.ensures.answer;
          own_dpr = c.built_messages_are_good_and_as_meant.ensures.dpr;
          own_dpa = c.built_messages_are_good_and_as_meant.ensures.dpa;
          canonical = c.canonical_octets_spell_message.ensures;
          inside = c.spelled_message_is_found.ensures;
        };
      };
      shape = c.steps_keep_shape_in_few_commands.ensures;
      cases = c.events_are_steps_drops_or_refusals.ensures;
    })
