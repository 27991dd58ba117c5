use Rattle.std.proofs.Common.{◌∷◌, []}
use Rattle.json.specs.Token.{string}
use Rattle.dm_view.proofs.JsonPrinted.{of_string}
use Rattle.dm_view.proofs.json_printed.Printed.put_string_as_is.Goals as goal

pub put_tokens_in_three_pieces-requires : goal.put_tokens_in_three_pieces-requires
put_tokens_in_three_pieces-requires c = (string c.args.text.now ∷ [], of_string c.args.text.now c.requires)

pub returns : goal.returns
returns c = c.put_tokens_in_three_pieces.ensures (string c.args.text.now ∷ []) (of_string c.args.text.now c.requires)
