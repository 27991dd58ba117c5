use Rattle.dm_live.proofs.Pieces.{stops_at_first}
use Rattle.dm_live.proofs.input.line_part_len_and_is_last.Goals as goal

pub returns-in-Some-clause-stops : goal.returns-in-Some-clause-stops
returns-in-Some-clause-stops c = stops_at_first c.args.octets.now c.in-Some.end c.in-Some.ensures.0
