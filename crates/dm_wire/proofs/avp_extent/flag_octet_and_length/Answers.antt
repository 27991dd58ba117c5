-- The number of the last four octets of the header, parted.
use Rattle.std.proofs.Common.{◌≡◌, ◌∙◌, ◌/◌, ◌%◌, drop, ap, arith}
use Rattle.std.proofs.lemmas.List.{take_rest, get_or-drop, drop-drop, length-drop}
use Rattle.byteorder.specs.Endian.{big_number}
use Rattle.dm_wire.proofs.Fronts.{octets_behind}
use Rattle.dm_wire.proofs.Numbers.{fit-octets, parted}
use Rattle.dm_wire.proofs.avp_extent.flag_octet_and_length.Goals as goal

pub returns : goal.returns
returns c =
    let s = c.args.octets.now in
    let word : c.read_u32-word.result ≡ big_number 4 (drop 4 s) = rw (take_rest s 4) at c.read_u32-word.ensures in
    let parts = parted (drop 4 s) (octets_behind 4 s (fit-octets s c.type_inv.octets))
    (omega (arith, length-drop 4 s, c.requires)) in
    record {
      flags = ap (λ n. n / 16777216) word ∙ parts.0 ∙ get_or-drop 4 s 0 0;
      len = ap (λ n. n % 16777216) word ∙ rw (drop-drop 1 4 s) at parts.1;
      fits = omega arith;
    }
