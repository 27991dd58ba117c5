-- Where nothing is left the AVPs are all that the octets spell.
use Rattle.std.proofs.Common.{◌≡◌, true}
use Rattle.dm_wire.proofs.Numbers.{fit-octets}
use Rattle.std.proofs.lemmas.List.{take_rest}
use Rattle.dm_wire.proofs.Reading.{all_pushed, pushed}
use Rattle.dm_wire.proofs.decode.push_avps_up_to_bad_one.Goals as goal

pub loop-extent-preserved : goal.loop-extent-preserved
loop-extent-preserved c =
    let left = c.loop-extent.left.now in
    let n = c.in-Some.extent.size in
    rw (take_rest left n)
    (pushed c.args.octets.now left n c.loop-extent.avps.items _ _ _ c.loop-extent.invariant
    c.in-Some.ensures.members c.in_ok-copy_first_avp.ensures
    (rw c.reserve.ensures.items at c.push_reserved.ensures.items))

pub returns : goal.returns
returns c = λ e.
    let s = c.args.octets.now in
    let whole : c.is_empty.result ≡ true = cc in
    all_pushed s c.loop-extent.left.now c.loop-extent.avps.items (fit-octets s c.type_inv.octets)
    c.loop-extent.invariant (rw c.is_empty.ensures at whole)
