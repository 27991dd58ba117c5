-- The law as it is proved for framings.
use Rattle.dm_framer.proofs.Framings.{whole_frames}
use Rattle.dm_framer.proofs.laws.frames_in_a_row_stay_themselves.Goals as goal

pub returns : goal.returns
returns c = whole_frames
