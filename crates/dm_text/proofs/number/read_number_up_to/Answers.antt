use Rattle.std.proofs.Common.{◌+◌, ◌≤◌, arith}
use Rattle.std.proofs.lemmas.Str.Parse.{digit_at}
use Rattle.dm_text.proofs.Numerals.{digit-more, great}
use Rattle.dm_text.proofs.number.read_number_up_to.Goals as goal

pub returns-then-not-is_ascii_digit-clause-none : goal.returns-then-not-is_ascii_digit-clause-none
returns-then-not-is_ascii_digit-clause-none c =
    λ n told. let digit = digit_at c.args.word.now c.loop-octet.octet-index told.0.1 c.loop-octet-test.true in
    omega (arith, digit, c.if-not-is_ascii_digit.ensures.cases)

pub returns-then-number-most-clause-none : goal.returns-then-number-most-clause-none
returns-then-number-most-clause-none c =
    let more = digit-more c.args.word.now c.loop-octet.octet-index c.loop-octet.number c.from-digit.result
    c.loop-octet-test.true c.loop-octet.invariant.0 c.loop-octet.invariant.1 c.if-not-is_ascii_digit.ensures.cases
    c.from-digit.ensures in
    λ n told. great c.args.word.now (c.loop-octet.octet-index + 1) _ n c.args.most more.1
    (omega (arith, c.if-number-most.true, c.from-digit.ensures)) told

pub loop-octet-preserved : goal.loop-octet-preserved
loop-octet-preserved c =
    let more = digit-more c.args.word.now c.loop-octet.octet-index c.loop-octet.number c.from-digit.result
    c.loop-octet-test.true c.loop-octet.invariant.0 c.loop-octet.invariant.1 c.if-not-is_ascii_digit.ensures.cases
    c.from-digit.ensures in
    let small : c.from-digit.result ≤ 9 = omega (arith, c.from-digit.ensures, c.if-not-is_ascii_digit.ensures.cases) in
    (more.0, more.1, omega (arith, c.if-number-most.false, small, c.requires))
