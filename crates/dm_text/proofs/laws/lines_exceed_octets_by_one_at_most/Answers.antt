use Rattle.dm_text.proofs.Contents.{lines-count}
use Rattle.dm_text.proofs.laws.lines_exceed_octets_by_one_at_most.Goals as goal

pub returns : goal.returns
returns c = lines-count
