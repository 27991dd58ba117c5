use Rattle.dm_view.proofs.CleanOctets.{all_clean}
use Rattle.dm_view.proofs.clean.are_escape_free_ascii.Goals as goal

pub returns-then-octets-ge16 : goal.returns-then-octets-ge16
returns-then-octets-ge16 c = λ is. all_clean c.args.least c.args.octets.now (c.are_escape_free_ascii_by_sixteens.ensures is)

pub returns-then-octets-ge8 : goal.returns-then-octets-ge8
returns-then-octets-ge8 c = λ is. all_clean c.args.least c.args.octets.now (c.are_escape_free_ascii_by_eights.ensures is)

pub returns-else-octets-ge8 : goal.returns-else-octets-ge8
returns-else-octets-ge8 c = λ is. all_clean c.args.least c.args.octets.now (c.are_escape_free_ascii_singly.ensures is)
