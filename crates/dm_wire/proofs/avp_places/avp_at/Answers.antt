-- What begins there is the first of those that stand there.
use Rattle.std.proofs.Common.{arith, ◌<◌, ◌∙◌, length, ap, sym, Some, option_map}
use Rattle.std.proofs.lemmas.List.{take_rest}
use Rattle.dm_wire.specs.Borrowed.{avp_of}
use Rattle.dm_wire.proofs.Placing.{none_behind, none_begins, first_begins}
use Rattle.dm_wire.proofs.avp_places.avp_at.Goals as goal

pub returns-then-octets-place : goal.returns-then-octets-place
returns-then-octets-place c = λ avps e.
    let over : length c.args.octets.now < c.args.place = c.if-octets-place.true in
    none_behind c.args.place c.args.octets.now avps (omega (arith, over)) e

pub returns-in_err-extent : goal.returns-in_err-extent
returns-in_err-extent c = λ avps e.
    ap (option_map avp_of) c.from_residual.ensures ∙
    none_begins _ avps (rw (take_rest c.args.octets.now c.args.place) at c.in_err-extent.ensures.none) e

pub returns : goal.returns
returns c = λ avps e.
    ap Some (rw (take_rest c.args.octets.now c.args.place) at c.avp_of_extent.ensures) ∙
    first_begins _ _ avps
    (sym (rw (take_rest c.args.octets.now c.args.place) at c.in_ok-extent.ensures.members) ∙ e)
