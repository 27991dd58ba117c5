-- The law as it is proved for spellings.
use Rattle.dm_wire.proofs.Spellings.{one_avp}
use Rattle.dm_wire.proofs.laws.octets_begin_with_one_avp_at_most.Goals as goal

pub returns : goal.returns
returns c = λ a b s t x y h g e. let same = one_avp a b s t x y h g e in (same.0, same.1)
