use Rattle.std.proofs.Common.{ap, slice_index_or}
use Rattle.dm_tool.proofs.Options.{none-then}
use Rattle.dm_tool.proofs.avp_line.read_avp_flags.Goals as goal

pub returns-clause-none : goal.returns-clause-none
returns-clause-none c =
    none-then c.read_two_flags.result
    (λ none m p is. none m p (ap (λ l. slice_index_or l 1 0) is) (ap (λ l. slice_index_or l 2 0) is))
    c.read_two_flags.ensures.none
