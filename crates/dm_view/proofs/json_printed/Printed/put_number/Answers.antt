use Rattle.std.proofs.Common.{◌∷◌, []}
use Rattle.std.specs.Fmt.{decimal}
use Rattle.json.proofs.Printed.Decimals.{IsNumber-decimal}
use Rattle.json.specs.Token.{number}
use Rattle.dm_view.proofs.JsonPrinted.{of_token}
use Rattle.dm_view.proofs.json_printed.Printed.put_number.Goals as goal

pub put_tokens_in_one_piece-requires : goal.put_tokens_in_one_piece-requires
put_tokens_in_one_piece-requires c =
    let n = c.args.value in
    rw c.format.ensures.text
    (number (decimal n) ∷ [], of_token (number (decimal n)) (IsNumber-decimal n c.ranges.value.fits))

pub returns : goal.returns
returns c =
    let n = c.args.value in
    c.put_tokens_in_one_piece.ensures (number (decimal n) ∷ [])
    (rw c.format.ensures.text (of_token (number (decimal n)) (IsNumber-decimal n c.ranges.value.fits)))
