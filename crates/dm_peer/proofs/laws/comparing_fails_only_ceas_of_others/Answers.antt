-- By the test of a CEA's sender, which nothing else goes by.
use Rattle.dm_peer.proofs.Comparing.{plain_goes_by_code, other_sender_fails, peer_is_heard_alike, others_are_heard_alike}
use Rattle.dm_peer.proofs.laws.comparing_fails_only_ceas_of_others.Goals as goal

pub returns-clause-plain : goal.returns-clause-plain
returns-clause-plain c = plain_goes_by_code

pub returns-clause-fails : goal.returns-clause-fails
returns-clause-fails c = other_sender_fails

pub returns-clause-peer : goal.returns-clause-peer
returns-clause-peer c = peer_is_heard_alike

pub returns-clause-others : goal.returns-clause-others
returns-clause-others c = others_are_heard_alike
