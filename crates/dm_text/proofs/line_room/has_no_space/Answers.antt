-- No octet is taken out.
use Rattle.std.proofs.Common.{nat_eq, arith}
use Rattle.dm_text.proofs.Firsts.{none_taken_out}
use Rattle.dm_text.proofs.line_room.has_no_space.Goals as goal

pub returns-in-None : goal.returns-in-None
returns-in-None c = λ h. none_taken_out (λ b. nat_eq b 32) c.args.line.now
    (λ k below. c.in-None.ensures k (omega arith) below)
