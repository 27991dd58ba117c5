use Rattle.dm_dictionaries.proofs.Chosen.{base_by_base}
use Rattle.dm_dictionaries.proofs.laws.base_commands_go_by_base_dictionary.Goals as goal

pub returns : goal.returns
returns c = base_by_base
