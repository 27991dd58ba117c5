use Rattle.std.specs.Io.KnownBytes.{Keeps}
use Rattle.dm_view_lines.specs.Inputs.{inputs_remaining}
use Rattle.dm_view_lines.proofs.inputs.InputsRead.read.Given as goal

-- nothing was read yet
abbrev pub invariant-loop : goal.invariant-loop
invariant-loop g l = record {
  kept : Keeps (inputs_remaining g.R.Read.remaining l.fn.self) (inputs_remaining g.R.Read.remaining l.self);
}
