-- Header, Vendor-ID, data and padding are the canonical spelling.
use Rattle.std.proofs.Common.{◌≡◌, refl}
use Rattle.dm_wire.specs.Spelling.{avp_length}
use Rattle.dm_wire.specs.Borrowed.{avp_of}
use Rattle.dm_wire.proofs.Canonicals.{avp_put}
use Rattle.dm_wire.proofs.avp_and_header_octets.push_fitting_avp.Goals as goal

pub returns : goal.returns
returns c =
    let a = avp_of c.args.avp in
    let n : c.args.length ≡ avp_length a = c.requires.length in
    avp_put a _ c.args.out.now.items _ _ _ _ _ _ n c.avp_header_front-header.ensures refl
    c.in_ok-extend_from_slice.ensures.items c.in_ok-push_vendor_id_if_some.ensures c.in_ok-extend_from_slice-2.ensures.items
    c.in_ok-push_padding.ensures
