-- By the few steps, and the state machine's laws of what isn't read.
use Rattle.dm_peer.proofs.Silent.{silent_takes_none}
use Rattle.dm_peer.proofs.laws.starts_timeouts_drops_take_no_memory.Goals as goal

pub returns : goal.returns
returns c =
    silent_takes_none c.few_steps_stand_for_all.ensures c.messages_do_the_same_where_unread.ensures.rejected
    c.messages_do_the_same_where_unread.ensures.dropped
