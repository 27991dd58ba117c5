use Rattle.dm_view_lines.proofs.InputsRead.{pushed}
use Rattle.dm_view_lines.proofs.inputs.Inputs.push_as_lines.Goals as goal

pub returns-in-Ok-clause-more : goal.returns-in-Ok-clause-more
returns-in-Ok-clause-more g c = pushed g.R.Read.remaining _ _ c.args.reader c.in-Ok.ensures.items
