-- Each place is that of the next AVP.
use Rattle.std.proofs.Common.{◌∙◌, ap}
use Rattle.std.specs.List.{find}
use Rattle.std.proofs.lemmas.List.{drop-drop}
use Rattle.dm_wire.specs.Finding.{is_of}
use Rattle.dm_wire.proofs.avp_places.first_matching_avp.Goals as goal

pub loop-place-preserved : goal.loop-place-preserved
loop-place-preserved c = λ avps placed.
    let i = c.loop-place.place-index in
    c.loop-place.invariant avps placed
    ∙ c.in_default.ensures.passed _ (placed.begins i c.loop-place-test.true)
    ∙ ap (find (is_of c.args.code c.args.vendor)) (drop-drop 1 i avps)
