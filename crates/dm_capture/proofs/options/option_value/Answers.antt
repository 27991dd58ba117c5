-- The option at the front of what is left is the first, or the first is among those behind it.
use Rattle.std.proofs.Common.{◌≡◌, inl, inr, ◌+◌, ◌-◌, take, drop, Some, sym, ◌∙◌, ap, arith}
use Rattle.dm_capture.specs.Numbers.{ordered_number}
use Rattle.dm_capture.specs.Options.{value_size}
use Rattle.dm_capture.proofs.Listed.{Ends, Begins, none_first, front_first, later_rest, joined}
use Rattle.dm_capture.proofs.options.option_value.Goals as goal
use Rattle.dm_capture.proofs.options.option_value.Goals.{then-found-eq0-via-then-found-eq0, then-found-eq0-via-else-found-eq0+then-rest-end}
use Rattle.dm_capture.proofs.options.option_value.Goals.{else-found-code-via-then-found-code+else-len-size, else-found-code-via-else-found-code}

pub returns-then-found-eq0-clause-first : goal.returns-then-found-eq0-clause-first
returns-then-found-eq0-clause-first c =
    let ends : Ends c.args.order c.options.rest.now = elim c.then-found-eq0.branch [
      | then-found-eq0-via-then-found-eq0 w ↦ inr (inl (sym c.u16_at-found.ensures ∙ w.if-found-eq0.true))
      | then-found-eq0-via-else-found-eq0+then-rest-end w ↦
          inr (inr (rw c.u16_at-len.ensures at w.if-rest-end.true))
    ] in
    λ options spelled.
    let left = c.options.invariant options spelled in
    left.2 ∙ none_first c.args.order c.options.rest.now c.args.code c.args.size ends left.0 left.1

pub returns-then-len-size-clause-first : goal.returns-then-len-size-clause-first
returns-then-len-size-clause-first c =
    let begins : Begins c.args.order c.options.rest.now = record {
      head = c.options-test.true;
      code = λ zero. c.if-found-eq0.false (c.u16_at-found.ensures ∙ zero);
      whole = rw c.u16_at-len.ensures at c.if-rest-end.false;
    } in
    let cut : 4 + c.u16_at-len.result - 4 ≡ value_size c.args.order c.options.rest.now =
    omega (arith, c.u16_at-len.ensures) in
    λ options spelled.
    let left = c.options.invariant options spelled in
    left.2 ∙ front_first c.args.order c.options.rest.now c.args.code c.args.size begins
    (sym c.u16_at-found.ensures ∙ c.if-found-code.true) (sym c.u16_at-len.ensures ∙ c.if-len-size.true) left.0 left.1 ∙
    ap (λ n. Some (take n (drop 4 c.options.rest.now))) (sym cut)

pub options-preserved : goal.options-preserved
options-preserved c =
    let s = c.options.rest.now in
    let begins : Begins c.args.order s = record {
      head = c.options-test.true;
      code = λ zero. c.if-found-eq0.false (c.u16_at-found.ensures ∙ zero);
      whole = rw c.u16_at-len.ensures at c.if-rest-end.false;
    } in
    let other : ordered_number c.args.order 2 s ≡ c.args.code → value_size c.args.order s ≡ c.args.size → ⊥ =
    elim c.else-found-code.branch [
      | else-found-code-via-then-found-code+else-len-size w ↦
          λ is sized. w.if-len-size.false (c.u16_at-len.ensures ∙ sized)
      | else-found-code-via-else-found-code w ↦ λ is sized. w.if-found-code.false (c.u16_at-found.ensures ∙ is)
    ] in
    λ options spelled. joined c.args.order s _ c.args.code c.args.size options (c.options.invariant options spelled)
    (later_rest c.args.order s c.args.code c.args.size c.u16_at-len.result c.u16_at-len.ensures begins other)

pub returns-clause-first : goal.returns-clause-first
returns-clause-first c =
    let ends : Ends c.args.order c.options.rest.now = inl (omega arith) in
    λ options spelled.
    let left = c.options.invariant options spelled in
    left.2 ∙ none_first c.args.order c.options.rest.now c.args.code c.args.size ends left.0 left.1
