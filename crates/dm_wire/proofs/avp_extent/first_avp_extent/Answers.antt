-- Where an AVP begins, the members are that AVP and those behind it.
use Rattle.std.proofs.Common.{◌≤◌, rules, length}
use Rattle.dm_wire.specs.Spelling.{avp_header_len}
use Rattle.dm_wire.specs.Members.{vendor_at, length_at, padded}
use Rattle.dm_wire.proofs.Members.{members_begun}
use Rattle.dm_wire.proofs.avp_extent.first_avp_extent.Goals as goal

pub returns-clause-members : goal.returns-clause-members
returns-clause-members c =
    let s = c.args.octets.now in
    let len_is = c.flag_octet_and_length-flags.ensures.len in
    let within : padded (length_at s) ≤ length s = rw len_is at c.if-octets-size.false in
    let above : avp_header_len (vendor_at s) ≤ length_at s = search rules in
    rw len_is (members_begun s (record { long = c.if-octets-lt8.false; above = above; within = within }))
