use Rattle.std.proofs.Common.{◌∙◌, ap, refl, arith, max}
use Rattle.dm_text.proofs.Decoded.{decoded_up_to, decoded_more, decoded_all}
use Rattle.dm_text.proofs.Runs.{read_none}
use Rattle.dm_text.proofs.hexadecimal.read_digits_one_by_one.Goals as goal

pub octets-init : goal.octets-init
octets-init c = decoded_up_to c.args.word.now c.args.octets.now 0 (read_none c.args.word.now c.args.octets.now)

pub octets-preserved : goal.octets-preserved
octets-preserved c =
    decoded_more c.args.word.now c.octets.octets c.octets.i c.octets.worst _ c.hex_digit_value_or_255-high.result c.hex_digit_value_or_255-low.result _
    c.octets.invariant (omega arith) (omega arith) c.hex_digit_value_or_255-high.ensures c.hex_digit_value_or_255-low.ensures refl
    (c.larger_octet-worst.ensures ∙ ap (max c.octets.worst) c.larger_octet.ensures)

pub returns : goal.returns
returns c =
    decoded_all c.args.word.now c.octets.octets c.octets.i c.octets.worst c.octets.invariant (omega arith) (omega arith)
