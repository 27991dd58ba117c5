use Rattle.std.proofs.Common.{◌∷◌, []}
use Rattle.json.specs.Token.{null}
use Rattle.dm_view.proofs.JsonPrinted.{of_token}
use Rattle.dm_view.proofs.json_printed.Printed.put_null.Goals as goal

pub put_tokens_in_one_piece-requires : goal.put_tokens_in_one_piece-requires
put_tokens_in_one_piece-requires c = (null ∷ [], of_token null tt)

pub returns : goal.returns
returns c = c.put_tokens_in_one_piece.ensures (null ∷ []) (of_token null tt)
