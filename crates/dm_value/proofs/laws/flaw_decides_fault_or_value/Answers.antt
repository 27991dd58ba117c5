-- The law as it is proved for flaws.
use Rattle.dm_value.proofs.Valued.{decides}
use Rattle.dm_value.proofs.laws.flaw_decides_fault_or_value.Goals as goal

pub returns : goal.returns
returns c = decides c.members_are_what_octets_spell.ensures
