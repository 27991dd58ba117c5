use Rattle.std.proofs.Common.{◌∷◌, [], codes}
use Rattle.json.specs.Token.{key, string}
use Rattle.dm_view.proofs.JsonPrinted.{of_name}
use Rattle.dm_view.proofs.json_text.JsonText.put_avp_name_member_as_is.Goals as goal

pub put_tokens_in_three_pieces-requires : goal.put_tokens_in_three_pieces-requires
put_tokens_in_three_pieces-requires c = (key (codes "name") ∷ string c.args.name.now ∷ [], of_name c.args.name.now c.requires)

pub returns : goal.returns
returns c =
    rw (← c.self.view_is) (c.put_tokens_in_three_pieces.ensures (key (codes "name") ∷ string c.args.name.now ∷ [])
    (of_name c.args.name.now c.requires))
