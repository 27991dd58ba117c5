use Rattle.dm_machine.proofs.UnreadLaw.{closes_unread, drops_before_ack, reads_as_peer_disc, ends_at_word}
use Rattle.dm_machine.proofs.laws.messages_do_the_same_where_unread.Goals as goal

pub returns : goal.returns
returns c =
    record { rejected = closes_unread; dropped = drops_before_ack; read = reads_as_peer_disc; ended = ends_at_word }
