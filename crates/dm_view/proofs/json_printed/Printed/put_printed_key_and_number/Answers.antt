use Rattle.std.proofs.Common.{◌∷◌, ◌<◌, ◌^◌, [], arith}
use Rattle.std.specs.Fmt.{decimal}
use Rattle.json.proofs.Printed.Decimals.{IsNumber-decimal}
use Rattle.json.specs.Token.{key, number}
use Rattle.dm_view.proofs.JsonPrinted.{of_number_member}
use Rattle.dm_view.proofs.json_printed.Printed.put_printed_key_and_number.Goals as goal

pub put_tokens_in_three_pieces-requires : goal.put_tokens_in_three_pieces-requires
put_tokens_in_three_pieces-requires c =
    let n = c.args.value in
    let (k, is) = c.requires in
    let small : n < 2 ^ 64 = omega (arith, c.ranges.value.fits) in
    rw (c.format.ensures.text, c.from.ensures) (
      key k ∷ number (decimal n) ∷ [],
      of_number_member c.args.name.now k (decimal n) is (IsNumber-decimal n small),
    )

pub returns : goal.returns
returns c k is =
    let n = c.args.value in
    let small : n < 2 ^ 64 = omega (arith, c.ranges.value.fits) in
    c.put_tokens_in_three_pieces.ensures (key k ∷ number (decimal n) ∷ [])
    (rw (c.format.ensures.text, c.from.ensures)
    (of_number_member c.args.name.now k (decimal n) is (IsNumber-decimal n small)))
