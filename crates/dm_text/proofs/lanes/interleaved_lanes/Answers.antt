use Rattle.dm_text.proofs.Turns.{turned}
use Rattle.dm_text.proofs.lanes.interleaved_lanes.Goals as goal

pub returns : goal.returns
returns c = turned c.args.firsts c.args.seconds c.fits-firsts.0 c.fits-seconds.0
