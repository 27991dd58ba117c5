use Rattle.std.proofs.Common.{◌∷◌, []}
use Rattle.json.specs.Token.{end_object}
use Rattle.dm_view.proofs.JsonPrinted.{of_token}
use Rattle.dm_view.proofs.json_printed.Printed.end_object.Goals as goal

pub put_tokens_in_one_piece-requires : goal.put_tokens_in_one_piece-requires
put_tokens_in_one_piece-requires c = (end_object ∷ [], of_token end_object tt)

pub returns : goal.returns
returns c = c.put_tokens_in_one_piece.ensures (end_object ∷ []) (of_token end_object tt)
