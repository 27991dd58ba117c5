-- The law as it is proved for framings.
use Rattle.dm_framer.proofs.Framings.{cuts}
use Rattle.dm_framer.proofs.laws.cuts_change_no_frames.Goals as goal

pub returns : goal.returns
returns c = cuts
