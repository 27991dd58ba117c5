-- By the spellings of what a node builds.
use Rattle.dm_peer.proofs.Spelling.{fresh_is_fitting, each_send_is_spelled}
use Rattle.dm_peer.proofs.laws.each_send_spells_a_message.Goals as goal

pub returns-clause-fresh : goal.returns-clause-fresh
returns-clause-fresh c = fresh_is_fitting

pub returns-clause-kept : goal.returns-clause-kept
returns-clause-kept c =
    each_send_is_spelled
    (record {
      few = c.few_steps_stand_for_all.ensures;
      within = c.message_in_octets_is_what_they_spell.ensures;
      canonical = c.canonical_octets_spell_message.ensures;
      cer = c.built_messages_have_spellings.ensures.cer;
      cea = c.built_messages_have_spellings.ensures.cea;
      dwr = c.built_messages_have_spellings.ensures.dwr;
      dpr = c.built_messages_have_spellings.ensures.dpr;
      answer = c.built_messages_have_spellings.ensures.answer;
      error = c.built_messages_have_spellings.ensures.error;
    })
