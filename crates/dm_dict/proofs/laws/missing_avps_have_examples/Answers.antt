-- The law as it is proved for rules.
use Rattle.dm_dict.proofs.Exemplified.{missing_examples}
use Rattle.dm_dict.proofs.laws.missing_avps_have_examples.Goals as goal

pub returns : goal.returns
returns c = missing_examples
