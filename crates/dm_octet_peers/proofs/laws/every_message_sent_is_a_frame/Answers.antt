use Rattle.dm_octet_peers.proofs.Framing.{octets_are_frames}
use Rattle.dm_octet_peers.proofs.laws.every_message_sent_is_a_frame.Goals as goal

pub returns : goal.returns
returns c =
    octets_are_frames
    (record {
      cer = c.built_messages_have_spellings.ensures.cer;
      cea = c.built_messages_have_spellings.ensures.cea;
      dwr = c.built_messages_have_spellings.ensures.dwr;
      dpr = c.built_messages_have_spellings.ensures.dpr;
      answer = c.built_messages_have_spellings.ensures.answer;
      error = c.built_messages_have_spellings.ensures.error;
      within = c.message_in_octets_is_what_they_spell.ensures;
      spelled = c.spelled_and_canonical_messages_are_frames.ensures.spelled;
      canonical = c.spelled_and_canonical_messages_are_frames.ensures.canonical;
    })
