use Rattle.std.proofs.Common.{rules, ◌++◌, [], sym, ap, ◌∙◌, refl}
use Rattle.std.proofs.Output.{writes_in_calls_nil, has_written_append, has_written_of_eq}
use Rattle.hex.specs.Hex.{encode_lower, lower_digits}
use Rattle.dm_text.proofs.Digits.{encode_with-append, encode_with-nil, more_passed, all_passed}
use Rattle.dm_text.proofs.hexadecimal.HexadecimalDisplay.fmt.Goals as goal

pub loop-rest-init : goal.loop-rest-init
loop-rest-init g c =
    let none = sym (encode_with-nil lower_digits) in (
      [],
      refl,
      λ p. has_written_of_eq _ _ _ _ _ none (record { wrote = writes_in_calls_nil _ _; plain = p }),
    )

pub loop-rest-preserved : goal.loop-rest-preserved
loop-rest-preserved g c =
    let some = c.split_at.result.0.now in
    let (passed, whole, written) = c.loop-rest.invariant in
    let further = sym (encode_with-append lower_digits passed some) in (
      passed ++ some,
      more_passed _ passed _ some _ _ whole c.split_at.ensures.front c.split_at.ensures.back,
      λ p. has_written_of_eq _ _ _ _ _ further (has_written_append _ _ _ _ _ _ (written p) (search rules)),
    )

pub returns : goal.returns
returns g c =
    let (passed, whole, written) = c.loop-rest.invariant in
    let all = all_passed _ passed _ whole (sym c.is_empty.ensures ∙ c.loop-rest-test.false) in
    record { writes = λ p ok. has_written_of_eq _ _ _ _ _ (ap encode_lower (sym all)) (written p); styled = tt }
