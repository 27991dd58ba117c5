-- The law as it is proved for tellings.
use Rattle.dm_node.proofs.NodeHeard.{heard_alike}
use Rattle.dm_node.proofs.HeardOut.{heard_out}
use Rattle.dm_node.proofs.laws.heard_pieces_are_told_as_kept_ones.Goals as goal

pub returns-clause-turn : goal.returns-clause-turn
returns-clause-turn c = heard_alike c.one_front_frame_or_lasting_fault.ensures.fault

pub returns-clause-out : goal.returns-clause-out
returns-clause-out c = heard_out
