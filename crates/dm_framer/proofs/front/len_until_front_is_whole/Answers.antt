-- With what is wanted a frame stands at the front, and with less none does.
use Rattle.std.proofs.Common.{◌-◌, arith}
use Rattle.dm_framer.proofs.Feeding.{frame_wanted, none_wanted}
use Rattle.dm_framer.proofs.front.len_until_front_is_whole.Goals as goal

pub returns-in-Some-clause-front : goal.returns-in-Some-clause-front
returns-in-Some-clause-front c = λ less t is.
    frame_wanted c.args.max c.in-Some.size c.args.octets.now t c.in-Some.ensures.told
    (omega (arith, c.min.ensures, c.saturating_sub.ensures, less, is))

pub returns-in-Some-clause-least : goal.returns-in-Some-clause-least
returns-in-Some-clause-least c = λ t there less.
    none_wanted c.args.max c.in-Some.size c.args.octets.now t c.in-Some.ensures.told
    (omega (arith, c.min.ensures, c.saturating_sub.ensures, less))
