-- The law as it is proved for fields.
use Rattle.dm_wire.proofs.Fitting.{fit_avp_spelled}
use Rattle.dm_wire.proofs.laws.fitting_avps_have_canonical_spelling.Goals as goal

pub returns : goal.returns
returns c = fit_avp_spelled
