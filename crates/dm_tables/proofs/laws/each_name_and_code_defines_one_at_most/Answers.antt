use Rattle.dm_tables.proofs.Only.{one_of_each}
use Rattle.dm_tables.proofs.laws.each_name_and_code_defines_one_at_most.Goals as goal

pub returns : goal.returns
returns c = one_of_each
