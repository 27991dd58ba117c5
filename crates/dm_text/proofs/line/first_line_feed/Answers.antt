-- What is found is the first.
use Rattle.memchr.specs.Find.{is_byte}
use Rattle.dm_text.proofs.Firsts.{first_position}
use Rattle.dm_text.proofs.line.first_line_feed.Goals as goal

pub returns : goal.returns
returns c = first_position (is_byte 10) c.args.input.now c.memchr.result c.memchr.ensures
