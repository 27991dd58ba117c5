use Rattle.std.proofs.Common.{◌/◌, [], ◌∙◌, sym, ap, append-nil}
use Rattle.std.specs.Fmt.{decimal}
use Rattle.dm_text.proofs.Texts.{pushed, pushed_behind, one_digit, two_digits, three_digits, more_digits}
use Rattle.dm_text.proofs.decimal.+push_decimal.Goals as goal
use Rattle.dm_text.proofs.decimal.+push_decimal.Goals.{then-number-ge1000+in_ok-push_decimal, else-number-ge1000}

pub returns-then-number-lt10 : goal.returns-then-number-lt10
returns-then-number-lt10 t c =
    pushed _ c.args.text.now.items _ _ _ c.extend_from_slice.ensures.items
    (rw c.last_digit.ensures (one_digit c.args.number c.if-number-lt10.true))

pub returns-then-number-lt100 : goal.returns-then-number-lt100
returns-then-number-lt100 t c =
    pushed _ c.args.text.now.items _ _ _ c.extend_from_slice-then-number-lt100.ensures.items
    (rw (c.last_digit-then-number-lt100.ensures, c.last_digit-then-number-lt100-2.ensures)
    (two_digits c.args.number c.if-number-lt10.false c.if-number-lt100.true))

pub returns : goal.returns
returns t c = elim c.if-number-ge1000.branch [
  | then-number-ge1000+in_ok-push_decimal w ↦
      pushed_behind _ c.args.text.now.items c.if-number-ge1000.text.items (decimal (c.args.number / 1000)) _ _ _
      (ap (λ v. v.items) w.text-is ∙ w.in_ok-push_decimal.ensures) c.extend_from_slice-2.ensures.items
      (rw (c.last_digit-2.ensures, c.last_digit-3.ensures, c.last_digit-4.ensures)
      (more_digits c.args.number w.if-number-ge1000.true c.ranges.number.fits))
  | else-number-ge1000 w ↦
      pushed_behind _ c.args.text.now.items c.if-number-ge1000.text.items [] _ _ _
      (ap (λ v. v.items) w.text-is ∙ sym (append-nil _)) c.extend_from_slice-2.ensures.items
      (rw (c.last_digit-2.ensures, c.last_digit-3.ensures, c.last_digit-4.ensures)
      (three_digits c.args.number c.if-number-lt100.false w.if-number-ge1000.false))
]
