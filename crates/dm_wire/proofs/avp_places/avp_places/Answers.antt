-- Each place is put behind the others, and behind the last no AVP begins.
use Rattle.std.proofs.Common.{arith, ◌≡◌, ◌++◌, ◌∷◌, []}
use Rattle.std.proofs.lemmas.List.{length-drop, take_rest}
use Rattle.dm_wire.proofs.Placing.{one_more, all_placed}
use Rattle.dm_wire.proofs.avp_places.avp_places.Goals as goal

pub loop-extent-preserved : goal.loop-extent-preserved
loop-extent-preserved c =
    let octets = c.args.octets.now in
    let place = c.loop-extent.place in
    let within = rw (take_rest octets place) at c.in-Some.ensures.found.within in
    let left = length-drop place octets in
    let put : c.push.new.self.items ≡ c.loop-extent.places.items ++ place ∷ [] = c.in_ok-push.ensures.items in (
      omega (arith, within, left, c.loop-extent.invariant.0),
      λ avps e.
          rw put
          (one_more c.loop-extent.places.items avps octets place c.in-Some.extent.size (c.loop-extent.invariant.1 avps e)
          (rw (take_rest octets place) at c.in-Some.ensures.members)),
    )

pub returns : goal.returns
returns c = λ avps e.
    all_placed c.loop-extent.places.items avps c.args.octets.now c.loop-extent.place (c.loop-extent.invariant.1 avps e)
    (rw (take_rest c.args.octets.now c.loop-extent.place) at c.in_default.ensures.none)
