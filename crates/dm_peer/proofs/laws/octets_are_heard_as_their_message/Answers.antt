-- Canonical octets are read as the message that they spell.
use Rattle.dm_peer.proofs.Exchange.{sent_is_heard}
use Rattle.dm_peer.proofs.laws.octets_are_heard_as_their_message.Goals as goal

pub returns : goal.returns
returns c = sent_is_heard c.canonical_octets_spell_message.ensures c.spelled_message_is_found.ensures
