use Rattle.dm_dict.proofs.Texts.{names_are_text}
use Rattle.dm_dict.proofs.laws.names_of_definitions_are_text.Goals as goal

pub returns : goal.returns
returns c = names_are_text
