use Rattle.std.proofs.Common.{arith}
use Rattle.dm_text.proofs.Places.{more_places, one_place, first_place}
use Rattle.dm_text.proofs.decimal.fill_end_with_decimal.Goals as goal

pub digits-preserved : goal.digits-preserved
digits-preserved c =
    let (fits, some, within, put) = c.digits.invariant in
    let places = more_places c.digits.left c.digits.start (omega arith) fits in (
      places.1,
      omega (arith, places.0),
      omega arith,
      one_place c.args.number c.digits.left c.digits.start c.last_digit.result c.digits.room (omega arith) (omega arith)
          (omega arith) (omega arith) c.last_digit.ensures put,
    )

pub overflow_sub-room : goal.overflow_sub-room
overflow_sub-room c = let (fits, some, within, put) = c.digits.invariant in omega (arith, some)

pub overflow_sub-result : goal.overflow_sub-result
overflow_sub-result c = let (fits, some, within, put) = c.digits.invariant in omega (arith, some)

pub returns-clause-digits : goal.returns-clause-digits
returns-clause-digits c =
    let (fits, some, within, put) = c.digits.invariant in
    first_place c.args.number c.digits.left c.digits.start c.last_digit-2.result c.digits.room (omega arith) some (omega arith)
    c.last_digit-2.ensures put
