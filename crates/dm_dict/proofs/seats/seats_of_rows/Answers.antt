-- One entry more.
use Rattle.std.proofs.Common.{◌≡◌, ◌%◌, length, refl, arith}
use Rattle.std.proofs.lemmas.Nat.{mod_below}
use Rattle.dm_dict.proofs.Seated.{seated_step}
use Rattle.dm_dict.proofs.seats.seats_of_rows.Goals as goal

pub loop-place-preserved : goal.loop-place-preserved
loop-place-preserved c = λ code vendor.
    seated_step c.args.rows.now c.loop-place.place code vendor _ _ _ _ c.loop-place-test.true refl
    (c.loop-place.invariant code vendor) (c.take_or_crowd_seat.ensures (code % 128) (mod_below code 128 (omega arith)))

pub returns : goal.returns
returns c =
    let end : c.loop-place.place ≡ length c.args.rows.now =
    omega (arith, c.loop-place-test.false, c.loop-place.auto.place-end) in
    rw (← end) c.loop-place.invariant
