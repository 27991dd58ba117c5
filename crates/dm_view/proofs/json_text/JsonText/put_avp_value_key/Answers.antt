use Rattle.std.proofs.Common.{◌∷◌, [], codes}
use Rattle.json.specs.Token.{key}
use Rattle.dm_view.proofs.JsonPrinted.{of_token, value_key}
use Rattle.dm_view.proofs.json_text.JsonText.put_avp_value_key.Goals as goal

pub put_tokens_in_one_piece-requires : goal.put_tokens_in_one_piece-requires
put_tokens_in_one_piece-requires c = (key (codes "value") ∷ [], rw value_key (of_token (key (codes "value")) tt))

pub returns : goal.returns
returns c =
    rw (← c.self.view_is)
    (c.put_tokens_in_one_piece.ensures (key (codes "value") ∷ []) (rw value_key (of_token (key (codes "value")) tt)))
