-- What stands behind the headers that were passed stands behind those of the whole.
use Rattle.std.proofs.Common.{inl, inr, refl}
use Rattle.dm_flows.proofs.Passing.{behind_extension, whole_extension}
use Rattle.dm_flows.proofs.extensions.upper_layer_behind_extensions.Goals as goal

pub returns-then-rest-lt2-clause-astray : goal.returns-then-rest-lt2-clause-astray
returns-then-rest-lt2-clause-astray c =
    c.headers.invariant.ends 0 (c.is_extension_header.ensures.yes c.headers-test.true, inl c.if-rest-lt2.true)

pub returns-then-rest-size-clause-astray : goal.returns-then-rest-size-clause-astray
returns-then-rest-size-clause-astray c =
    let less = rw c.extension_len-size.ensures at c.if-rest-size.true in
    c.headers.invariant.ends 0
    (c.is_extension_header.ensures.yes c.headers-test.true, inr (c.if-rest-lt2.false, less))

pub returns-then-is_fragment-clause-astray : goal.returns-then-is_fragment-clause-astray
returns-then-is_fragment-clause-astray c =
    let whole = whole_extension c.headers.next c.headers.rest.now c.extension_len-size.result
    (c.is_extension_header.ensures.yes c.headers-test.true) c.if-rest-lt2.false c.extension_len-size.ensures
    c.if-rest-size.false in
    c.headers.invariant.fragment 0 (whole, c.is_fragment.ensures.yes c.if-is_fragment.true)

pub headers-preserved : goal.headers-preserved
headers-preserved c =
    let whole = whole_extension c.headers.next c.headers.rest.now c.extension_len-size.result
    (c.is_extension_header.ensures.yes c.headers-test.true) c.if-rest-lt2.false c.extension_len-size.ensures
    c.if-rest-size.false in
    behind_extension c.args.first c.args.octets.now c.headers.next c.headers.rest.now c.extension_len-size.result _
    c.headers.invariant whole (c.is_fragment.ensures.no c.if-is_fragment.false) c.extension_len-size.ensures refl

pub returns-clause-upper : goal.returns-clause-upper
returns-clause-upper c =
    c.headers.invariant.upper 0 c.headers.next c.headers.rest.now
    (c.is_extension_header.ensures.no c.headers-test.false, refl, refl)
