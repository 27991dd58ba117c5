use Rattle.dm_dict_text.proofs.FirstVersion.{prints_first_version}
use Rattle.dm_dict_text.proofs.laws.plain_definitions_print_first_version.Goals as goal

pub returns : goal.returns
returns c = prints_first_version
