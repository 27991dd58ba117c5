use Rattle.std.proofs.Common.{ℕ, arith}
use Rattle.std.proofs.Math.ListN.{length-set}
use Rattle.dm_trace.proofs.LastDigits.{one_digit_put, all_digits_put}
use Rattle.dm_trace.proofs.digits.fill_with_last_digits.Goals as goal

pub digits-preserved : goal.digits-preserved
digits-preserved c =
    let (within, put) = c.digits.invariant in
    (omega (arith, length-set {A = ℕ}), one_digit_put c.digits.start c.digits.left c.digits.room _ (omega arith) within put)

pub returns : goal.returns
returns c =
    let (within, put) = c.digits.invariant in
    all_digits_put c.digits.start c.digits.left c.digits.room _ (omega arith) put
