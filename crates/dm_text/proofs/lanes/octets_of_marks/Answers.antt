use Rattle.dm_text.proofs.Marks.{joined_lanes}
use Rattle.dm_text.proofs.lanes.octets_of_marks.Goals as goal

pub returns : goal.returns
returns c =
    λ left right. joined_lanes c.args.front c.args.back c.fits-front.0 c.fits-back.0 c.fits-front.1 c.fits-back.1 left right
