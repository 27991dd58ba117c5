-- The length that is read is the one that is told.
use Rattle.std.proofs.Common.{◌≤◌, ◌∙◌, length, sym, ap, subst, arith}
use Rattle.std.proofs.lemmas.List.{take_rest}
use Rattle.byteorder.specs.Endian.{big_number}
use Rattle.dm_framer.specs.Frames.{HasLength}
use Rattle.dm_framer.proofs.Feeding.{told_either}
use Rattle.dm_framer.proofs.front.announced_good_length.Goals as goal

pub returns-in-Ok-clause-told : goal.returns-in-Ok-clause-told
returns-in-Ok-clause-told c =
    let there : 4 ≤ length c.args.octets.now = omega (arith, c.if-octets-lt-HEADER_FRONT.false) in
    subst (HasLength c.args.max c.args.octets.now)
    (ap (λ l. big_number 3 l) (sym (take_rest c.args.octets.now 1)) ∙ sym c.read_u24.ensures)
    (told_either c.args.max c.args.octets.now c.in-Ok.field-0 there c.in-Ok.ensures.frame c.in-Ok.ensures.partial)
