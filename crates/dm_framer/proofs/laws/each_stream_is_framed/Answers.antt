-- The law as it is proved for framings.
use Rattle.dm_framer.proofs.Framings.{each_stream_is_framed}
use Rattle.dm_framer.proofs.laws.each_stream_is_framed.Goals as goal

pub returns : goal.returns
returns c = each_stream_is_framed
