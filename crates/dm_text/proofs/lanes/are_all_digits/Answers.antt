use Rattle.std.proofs.Common.{nat_eq, ltb, ap, arith, w8}
use Rattle.std.proofs.lemmas.Simd.{bitmask_splat}
use Rattle.dm_text.proofs.lanes.are_all_digits.Goals as goal

pub returns : goal.returns
returns c = ap (λ m. nat_eq m 0) (bitmask_splat w8 ltb c.args.marks 16 240 c.fits-marks.0 (omega arith))
