-- The law as it is proved for sizes.
use Rattle.dm_wire.proofs.Canonicals.{canonical_size}
use Rattle.dm_wire.proofs.laws.canonical_avps_have_padded_length.Goals as goal

pub returns : goal.returns
returns c = canonical_size
