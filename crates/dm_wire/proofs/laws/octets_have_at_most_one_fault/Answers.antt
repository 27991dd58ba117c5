-- The law as it is proved for spellings.
use Rattle.dm_wire.proofs.Messages.{one_refusal}
use Rattle.dm_wire.proofs.laws.octets_have_at_most_one_fault.Goals as goal

pub returns : goal.returns
returns c = one_refusal
