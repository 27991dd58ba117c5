use Rattle.dm_dictionaries.proofs.Chosen.{own_judges}
use Rattle.dm_dictionaries.proofs.laws.own_dictionary_judges_its_application.Goals as goal

pub returns : goal.returns
returns c = own_judges
