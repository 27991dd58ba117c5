use Rattle.dm_node.proofs.NodeFrames.{streams_told}
use Rattle.dm_node.proofs.laws.frames_of_streams_are_told_in_order.Goals as goal

pub returns : goal.returns
returns c =
    streams_told c.one_front_frame_or_lasting_fault.ensures.frame c.one_front_frame_or_lasting_fault.ensures.either
