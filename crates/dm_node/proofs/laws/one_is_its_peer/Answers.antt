-- The laws as they are proved for events and for turns.
use Rattle.dm_node.proofs.OnePeer.{does_as_its_peer, first_turns_as_its_peer, concerned_turns_as_its_peer}
use Rattle.dm_node.proofs.laws.one_is_its_peer.Goals as goal

pub returns-clause-event : goal.returns-clause-event
returns-clause-event c = does_as_its_peer

pub returns-clause-octets : goal.returns-clause-octets
returns-clause-octets c = λ d p s t turn one tells.
    first_turns_as_its_peer turn.arrived d p s t turn.answer one tells

pub returns-clause-concerned : goal.returns-clause-concerned
returns-clause-concerned c = λ policy d p s t turn one tells is.
    concerned_turns_as_its_peer policy turn.arrived d p s t turn.answer one tells is
