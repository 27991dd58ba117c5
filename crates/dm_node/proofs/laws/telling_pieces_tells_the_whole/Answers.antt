-- The law as it is proved for tellings.
use Rattle.dm_node.proofs.NodeCuts.{cuts_alike}
use Rattle.dm_node.proofs.laws.telling_pieces_tells_the_whole.Goals as goal

pub returns : goal.returns
returns c = cuts_alike c.one_front_frame_or_lasting_fault.ensures.fault
