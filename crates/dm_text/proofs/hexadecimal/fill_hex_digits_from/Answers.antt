use Rattle.std.proofs.Common.{slice_index, ap, arith}
use Rattle.hex.specs.Hex.{lower_digits}
use Rattle.hex.proofs.Pairs.{encode_step, encode_done}
use Rattle.dm_text.proofs.hexadecimal.fill_hex_digits_from.Goals as goal

pub octets-preserved : goal.octets-preserved
octets-preserved c =
    encode_step lower_digits c.args.octets.now c.octets.room c.octets.i _ _ (omega arith) (omega arith)
    (ap (λ p. slice_index p 0) c.hex_digits_of.ensures) (ap (λ p. slice_index p 1) c.hex_digits_of.ensures) c.octets.invariant

pub returns : goal.returns
returns c = encode_done lower_digits _ _ c.octets.i (omega arith) (omega arith) c.octets.invariant
