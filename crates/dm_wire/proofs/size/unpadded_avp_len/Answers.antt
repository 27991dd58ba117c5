-- An AVP whose Length fits its field has a canonical spelling.
use Rattle.std.proofs.Common.{◌<◌, ◌^◌, arith}
use Rattle.dm_wire.specs.Spelling.{avp_length}
use Rattle.dm_wire.proofs.Canonicals.{avp_spelled}
use Rattle.dm_wire.proofs.size.unpadded_avp_len.Goals as goal

pub returns-clause-spelled : goal.returns-clause-spelled
returns-clause-spelled c = λ h.
    let code : c.args.avp.now.code < 256 ^ 4 = omega arith in
    let len : avp_length c.args.avp.now < 256 ^ 3 = grind (arith, h, c.avp_header_len.ensures, c.as_slice.ensures) in
    avp_spelled c.args.avp.now code len c.avp_header_len.ensures.fits
