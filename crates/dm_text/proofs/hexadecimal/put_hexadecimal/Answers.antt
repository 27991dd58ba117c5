use Rattle.std.proofs.Common.{◌++◌, [], sym, ap, ◌∙◌, refl, append_assoc, append-nil}
use Rattle.std.specs.String.{string_bytes}
use Rattle.hex.specs.Hex.{encode_lower, lower_digits}
use Rattle.dm_text.proofs.Digits.{encode_with-append, encode_with-nil, more_passed, all_passed}
use Rattle.dm_text.proofs.hexadecimal.put_hexadecimal.Goals as goal

pub loop-rest-init : goal.loop-rest-init
loop-rest-init c =
    let old = string_bytes c.args.text.now in
    ([], refl, sym (ap (λ l. old ++ l) (encode_with-nil lower_digits) ∙ append-nil old))

pub loop-rest-preserved : goal.loop-rest-preserved
loop-rest-preserved c =
    let old = string_bytes c.args.text.now in
    let some = c.split_at.result.0.now in
    let (passed, whole, put) = c.loop-rest.invariant in (
      passed ++ some,
      more_passed _ passed _ some _ _ whole c.split_at.ensures.front c.split_at.ensures.back,
      c.in_ok-put_hex_at_once.ensures ∙ ap (λ t. t ++ encode_lower some) put ∙ append_assoc old (encode_lower passed) (encode_lower some)
          ∙ ap (λ l. old ++ l) (sym (encode_with-append lower_digits passed some)),
    )

pub returns : goal.returns
returns c =
    let old = string_bytes c.args.text.now in
    let (passed, whole, put) = c.loop-rest.invariant in
    let all = all_passed _ passed _ whole (sym c.is_empty.ensures ∙ c.loop-rest-test.false) in
    put ∙ ap (λ l. old ++ encode_lower l) (sym all)
