use Rattle.std.proofs.Common.{ℕ, ◌≡◌, ◌≤◌, ◌<◌, ◌^◌, ◌+◌, ◌-◌, ◌∷◌, ◌∙◌, ap, drop, length, arith}
use Rattle.std.proofs.lemmas.Fmt.{IsAscii-decimal, length-decimal-le}
use Rattle.std.proofs.lemmas.List.{drop-set}
use Rattle.std.specs.Fmt.{decimal}
use Rattle.dm_view.proofs.code_and_flags.prepend_sign_and_number.Goals as goal

ten_digits : (n : ℕ) → n < 2 ^ 32 → length (decimal n) ≤ 10
ten_digits n small = length-decimal-le 10 n (omega arith) (omega (arith, small)) (omega (arith, small))

pub write_digits-start-requires : goal.write_digits-start-requires
write_digits-start-requires c =
    let n = c.args.number in
    let few = ten_digits n c.ranges.number.fits in
    rw c.from.ensures (omega (arith, few), omega arith)

pub overflow_sub-start : goal.overflow_sub-start
overflow_sub-start c =
    let n = c.args.number in
    let few = ten_digits n c.ranges.number.fits in
    let is = rw c.from.ensures at c.write_digits-start.ensures.start in
    omega (arith, few, is)

pub returns-clause-put : goal.returns-clause-put
returns-clause-put c =
    let n = c.args.number in
    let few = ten_digits n c.ranges.number.fits in
    let is = rw c.from.ensures at c.write_digits-start.ensures.start in
    let room = c.write_digits-start.new.buf in
    let digits = c.write_digits-start.result in
    let long : length room ≡ 26 = c.write_digits-start.auto.buf ∙ c.told-room in
    let next : digits - 1 + 1 ≡ digits = omega (arith, few, is) in
    drop-set room (digits - 1) c.args.sign (omega (arith, few, is, long)) ∙ ap (λ k. c.args.sign ∷ drop k room) next
    ∙ ap (λ l. c.args.sign ∷ l) (rw c.from.ensures at c.write_digits-start.ensures.written)

pub returns-clause-ascii : goal.returns-clause-ascii
returns-clause-ascii c =
    let small : c.args.number < 2 ^ 32 = c.ranges.number.fits in
    IsAscii-decimal c.args.number (omega (arith, small))

pub returns-clause-bound : goal.returns-clause-bound
returns-clause-bound c =
    let n = c.args.number in
    let few = ten_digits n c.ranges.number.fits in
    let is = rw c.from.ensures at c.write_digits-start.ensures.start in
    omega (arith, few, is)
