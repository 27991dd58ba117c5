-- What is found is the first.
use Rattle.memchr.specs.Find.{is_byte}
use Rattle.dm_text.proofs.Firsts.{first_position}
use Rattle.dm_text.proofs.word.first_space.Goals as goal

pub returns : goal.returns
returns c = first_position (is_byte 32) c.args.line.now c.memchr.result c.memchr.ensures
