use Rattle.std.proofs.Output.{has_written_of_eq}
use Rattle.dm_value.proofs.Names.{name-is-text, name-is-hex}
use Rattle.dm_value.proofs.printing.NameDisplay.fmt.Goals as goal

pub returns-in-Ok-clause-writes : goal.returns-in-Ok-clause-writes
returns-in-Ok-clause-writes g c p ok =
    let (same, utf8) = c.in-Ok.ensures.cases in
    has_written_of_eq _ _ _ _ _ (name-is-text _ _ _ c.as_slice.ensures same utf8) (c.write_str.ensures.writes p ok)

pub returns-in-Err-clause-writes : goal.returns-in-Err-clause-writes
returns-in-Err-clause-writes g c p ok =
    has_written_of_eq _ _ _ _ _ (name-is-hex _ _ c.as_slice.ensures c.in-Err.ensures.cases.0)
    (c.write.ensures.writes p ok)
