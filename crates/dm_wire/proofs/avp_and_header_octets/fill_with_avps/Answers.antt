-- One AVP more is written.
use Rattle.std.proofs.Common.{◌≡◌, ◌∙◌, ◌+◌, ◌*◌, ◌/◌, length, ap}
use Rattle.std.proofs.lemmas.List.{take_rest}
use Rattle.dm_wire.specs.Spelling.{avp_length}
use Rattle.dm_wire.specs.Borrowed.{avp_of}
use Rattle.dm_wire.specs.Canonical.{canonical_avp}
use Rattle.dm_wire.proofs.Written.{first_and_rest, one_written}
use Rattle.dm_wire.proofs.avp_and_header_octets.fill_with_avps.Goals as goal

pub loop-left-preserved : goal.loop-left-preserved
loop-left-preserved c =
    let left = c.loop-left.left.now in
    let whole = first_and_rest left c.avp-item.result c.in-len1-up.len_at_least c.avp-item.is in
    let bytes = c.borrowed-avp.result.bytes.now in
    let long : c.avp_header_len.result + length bytes ≡ avp_length (avp_of c.borrowed-avp.result) =
    ap (λ n. n + length bytes) c.avp_header_len.ensures.len in
    rw (take_rest left 1)
    (one_written c.avp-item.result c.loop-left.room c.fill_with_fitting_avp.new.room c.loop-left.place _ left _
    c.args.avps.now
    whole (c.fill_with_fitting_avp.ensures ∙ ap canonical_avp c.borrowed-avp.ensures)
    (ap (λ n. (n + 3) / 4 * 4) (long ∙ ap avp_length c.borrowed-avp.ensures)) c.loop-left.invariant)
