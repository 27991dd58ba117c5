-- The law as it is proved for meanings.
use Rattle.dm_value.proofs.Lengths.{least_length}
use Rattle.dm_value.proofs.laws.shortest_values_have_the_least_length.Goals as goal

pub returns : goal.returns
returns c = least_length
