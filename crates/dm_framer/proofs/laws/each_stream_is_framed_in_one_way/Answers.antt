-- The law as it is proved for framings.
use Rattle.dm_framer.proofs.Framings.{one_framing}
use Rattle.dm_framer.proofs.laws.each_stream_is_framed_in_one_way.Goals as goal

pub returns : goal.returns
returns c = one_framing
