-- By what the node's messages are under the base dictionary, and by their spellings.
use Rattle.dm_peer.proofs.Exchange.{cer_is_good, cea_is_good, dwr_is_good, dwa_is_good, dpr_is_good, dpa_is_good}
use Rattle.dm_peer.proofs.laws.requests_and_successes_are_heard_as_good.Goals as goal

pub returns-clause-cer : goal.returns-clause-cer
returns-clause-cer c =
    cer_is_good c.octets_are_heard_as_their_message.ensures c.built_messages_are_good_and_as_meant.ensures.cer c.built_messages_have_spellings.ensures.cer
    c.applications_are_common_by_shared_id_or_relay.ensures.own

pub returns-clause-cea : goal.returns-clause-cea
returns-clause-cea c =
    cea_is_good c.octets_are_heard_as_their_message.ensures c.built_messages_are_good_and_as_meant.ensures.cea c.built_messages_have_spellings.ensures.cea

pub returns-clause-dwr : goal.returns-clause-dwr
returns-clause-dwr c =
    dwr_is_good c.octets_are_heard_as_their_message.ensures c.built_messages_are_good_and_as_meant.ensures.dwr c.built_messages_have_spellings.ensures.dwr

pub returns-clause-dwa : goal.returns-clause-dwa
returns-clause-dwa c =
    dwa_is_good c.octets_are_heard_as_their_message.ensures c.built_messages_are_good_and_as_meant.ensures.dwa c.built_messages_have_spellings.ensures.answer

pub returns-clause-dpr : goal.returns-clause-dpr
returns-clause-dpr c =
    dpr_is_good c.octets_are_heard_as_their_message.ensures c.built_messages_are_good_and_as_meant.ensures.dpr c.built_messages_have_spellings.ensures.dpr

pub returns-clause-dpa : goal.returns-clause-dpa
returns-clause-dpa c =
    dpa_is_good c.octets_are_heard_as_their_message.ensures c.built_messages_are_good_and_as_meant.ensures.dpa c.built_messages_have_spellings.ensures.answer
