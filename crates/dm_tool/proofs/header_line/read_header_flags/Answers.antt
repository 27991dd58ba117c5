use Rattle.std.proofs.Common.{ap, slice_index_or}
use Rattle.dm_tool.proofs.Options.{none-anyway}
use Rattle.dm_tool.proofs.header_line.read_header_flags.Goals as goal

pub returns-in_err-request-clause-none : goal.returns-in_err-request-clause-none
returns-in_err-request-clause-none c =
    none-anyway c.from_residual.result
    (λ r p e t is. c.in_err-request.ensures.none r p (ap (λ l. slice_index_or l 0 0) is)
    (ap (λ l. slice_index_or l 1 0) is))

pub returns-in_err-error-clause-none : goal.returns-in_err-error-clause-none
returns-in_err-error-clause-none c =
    none-anyway c.from_residual-in_err-error.result
    (λ r p e t is. c.in_err-error.ensures.none e t (ap (λ l. slice_index_or l 2 0) is)
    (ap (λ l. slice_index_or l 3 0) is))
