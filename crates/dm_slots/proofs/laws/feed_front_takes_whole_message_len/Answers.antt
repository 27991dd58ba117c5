-- A frame is no front of another.
use Rattle.dm_slots.proofs.Taken.{whole_is_taken}
use Rattle.dm_slots.proofs.laws.feed_front_takes_whole_message_len.Goals as goal

pub returns : goal.returns
returns c = whole_is_taken c.one_front_frame_or_lasting_fault.ensures.frame
