use Rattle.dm_dictionaries.proofs.Chosen.{alone_judges}
use Rattle.dm_dictionaries.proofs.laws.lone_dictionary_judges_all_but_base.Goals as goal

pub returns : goal.returns
returns c = alone_judges
