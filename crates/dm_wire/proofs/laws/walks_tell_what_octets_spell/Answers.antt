-- The law as it is proved for walks.
use Rattle.dm_wire.proofs.Walking.{walk_tells}
use Rattle.dm_wire.proofs.laws.walks_tell_what_octets_spell.Goals as goal

pub returns : goal.returns
returns c = walk_tells
