use Rattle.std.proofs.Common.{◌∙◌, arith}
use Rattle.dm_dict_text.proofs.Numbers.{over}
use Rattle.dm_dict_text.proofs.number.number_if_within_limit.Goals as goal

pub returns-then-number-limit : goal.returns-then-number-limit
returns-then-number-limit c =
    over c.args.limit c.loop-digit.number c.args.digits.now c.loop-digit.digit-index _ c.from.result
    c.loop-digit-test.true (c.from.ensures ∙ c.saturating_sub.ensures) (omega arith) c.loop-digit.invariant.value
