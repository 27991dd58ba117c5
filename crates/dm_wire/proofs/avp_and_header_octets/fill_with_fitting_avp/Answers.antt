-- Header, Vendor-ID and data are written, and the rest stays zero.
use Rattle.std.proofs.Common.{◌∙◌}
use Rattle.dm_wire.specs.Borrowed.{avp_of}
use Rattle.dm_wire.proofs.Written.{written_alone, written_with}
use Rattle.dm_wire.proofs.avp_and_header_octets.fill_with_fitting_avp.Goals as goal

pub returns-in-None : goal.returns-in-None
returns-in-None c =
    written_alone (avp_of c.args.avp) c.args.room.now _ _ c.args.length c.in-None.is
    (c.copy_from_slice.ensures.after ∙ c.avp_header_front-front.ensures) c.copy_from_slice-in-None.ensures.after
    c.requires.length c.requires.zero

pub returns-in-Some : goal.returns-in-Some
returns-in-Some c =
    written_with (avp_of c.args.avp) c.args.room.now _ _ _ c.in-Some.vendor c.args.length c.in-Some.is
    (c.copy_from_slice.ensures.after ∙ c.avp_header_front-front.ensures) c.write_u32.ensures
    c.copy_from_slice-in-Some.ensures.after c.requires.length c.requires.zero
