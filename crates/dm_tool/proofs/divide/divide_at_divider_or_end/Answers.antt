use Rattle.std.proofs.Common.{◌≡◌, ◌+◌, ◌-◌, take, drop, true, false, arith, ap, sym, ◌∙◌}
use Rattle.std.proofs.lemmas.List.{take_rest, length-drop}
use Rattle.dm_tool.specs.Divided.{is_divider}
use Rattle.dm_tool.proofs.Dividing.{divided, one-more}
use Rattle.dm_tool.proofs.divide.divide_at_divider_or_end.Goals as goal

pub returns-then-is_divider-clause-messages : goal.returns-then-is_divider-clause-messages
returns-then-is_divider-clause-messages c =
    let input = c.args.input.now in
    let line : (c.lines.size + c.in-Some.end) - c.lines.size ≡ c.in-Some.end = omega arith in
    let divider : is_divider (take c.in-Some.end (drop c.lines.size input)) ≡ true = ap
    (λ k. is_divider (take k (drop c.lines.size input))) (sym line) ∙ sym c.is_divider.ensures
    ∙ c.if-is_divider.true in
    take_rest input (c.lines.size + c.in-Some.end)
    ∙ (divided input c.lines.size c.in-Some.end (rw (take_rest input c.lines.size) at c.in-Some.ensures.some) divider
    c.lines.invariant.dictionary c.lines.invariant.messages).1

pub lines-preserved : goal.lines-preserved
lines-preserved c =
    let input = c.args.input.now in
    let line : (c.lines.size + c.in-Some.end) - c.lines.size ≡ c.in-Some.end = omega arith in
    let other : is_divider (take c.in-Some.end (drop c.lines.size input)) ≡ false = ap
    (λ k. is_divider (take k (drop c.lines.size input))) (sym line) ∙ sym c.is_divider.ensures
    ∙ c.if-is_divider.false in
    let fits = rw (take_rest input c.lines.size, length-drop c.lines.size input) at c.in-Some.ensures.within in
    let within = c.lines.invariant.within in
    let more = one-more input c.lines.size c.in-Some.end
    (rw (take_rest input c.lines.size) at c.in-Some.ensures.some) other c.lines.invariant.dictionary
    c.lines.invariant.messages in
    record { within = omega (arith, fits, within); dictionary = more.0; messages = more.1 }
