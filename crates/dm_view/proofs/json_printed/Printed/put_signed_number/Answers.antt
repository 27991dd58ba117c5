use Rattle.std.proofs.Common.{◌∷◌, [], rules, to_z-of_z}
use Rattle.std.specs.Fmt.{signed_decimal}
use Rattle.json.proofs.Printed.Decimals.{IsNumber-signed_decimal}
use Rattle.json.specs.Print.{IsNumber}
use Rattle.json.specs.Token.{number}
use Rattle.dm_view.proofs.JsonPrinted.{of_token}
use Rattle.dm_view.proofs.json_printed.Printed.put_signed_number.Goals as goal

pub put_tokens_in_one_piece-requires : goal.put_tokens_in_one_piece-requires
put_tokens_in_one_piece-requires c =
    let n = c.args.value in
    let good : IsNumber (signed_decimal n) = search (rules, IsNumber-signed_decimal) in
    let fits = c.ranges.value in
    rw (simp to_z-of_z at c.format.ensures.text)
    (number (signed_decimal n) ∷ [], of_token (number (signed_decimal n)) good)

pub returns : goal.returns
returns c =
    let n = c.args.value in
    let good : IsNumber (signed_decimal n) = search (rules, IsNumber-signed_decimal) in
    let fits = c.ranges.value in
    c.put_tokens_in_one_piece.ensures (number (signed_decimal n) ∷ [])
    (rw (simp to_z-of_z at c.format.ensures.text) (of_token (number (signed_decimal n)) good))
