-- The AVP of a number begins at the place of that number.
use Rattle.std.proofs.Common.{◌≡◌, ◌≤◌, ◌<◌, ◌∙◌, ap, sym, arith, rules, length, get_or, option_map, slice_get}
use Rattle.std.proofs.lemmas.List.{take_rest}
use Rattle.std.proofs.lemmas.Option.{slice_get_past}
use Rattle.dm_wire.specs.Borrowed.{avp_of}
use Rattle.dm_wire.proofs.Holding.{held_avps}
use Rattle.dm_wire.proofs.Placing.{numbered}
use Rattle.dm_wire.proofs.message_buf.MessageBuf.get.Goals as goal

pub returns-in_err-place : goal.returns-in_err-place
returns-in_err-place c = λ m sp.
    let held = c.self.invariant in
    let avps = held_avps c.self.inside.header c.self.inside.octets.items c.self.inside.places.items held m
    (rw (c.self.view_is) sp) in
    let past : length c.self.inside.places.items ≤ c.args.index = search rules in
    let size : length m.avps ≤ c.args.index = (let n = held.placed.each_has_one in let k = ap length avps in omega (arith, past, n, k)) in
    ap (option_map avp_of) c.from_residual.ensures ∙ sym (slice_get_past m.avps c.args.index size)

pub returns : goal.returns
returns c = λ m sp.
    let held = c.self.invariant in
    let octets = c.self.inside.octets.items in
    let avps = held_avps c.self.inside.header octets c.self.inside.places.items held m (rw (c.self.view_is) sp) in
    let within : c.args.index < length c.self.inside.places.items = search rules in
    let place : c.in_ok-place.field-0.now ≡ get_or c.self.inside.places.items c.args.index 0 = search rules in
    (rw (c.deref-2.ensures.value, take_rest octets 20, place) at c.avp_at.ensures) _ (held.placed.begins c.args.index within)
    ∙ numbered c.args.index held.avps ∙ ap (λ l. slice_get l c.args.index) avps
