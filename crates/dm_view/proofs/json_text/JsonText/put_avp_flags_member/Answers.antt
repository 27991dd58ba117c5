use Rattle.dm_view.specs.JsonPrinted.{flags_tokens}
use Rattle.dm_view.proofs.JsonPrinted.{of_flags}
use Rattle.dm_view.proofs.json_text.JsonText.put_avp_flags_member.Goals as goal

pub put_tokens_in_one_piece-requires : goal.put_tokens_in_one_piece-requires
put_tokens_in_one_piece-requires c = rw c.avp_flags_member_text.ensures (
  flags_tokens c.args.vendor c.args.mandatory c.args.protected,
  of_flags c.args.vendor c.args.mandatory c.args.protected,
)

pub returns : goal.returns
returns c =
    rw (← c.self.view_is) (c.put_tokens_in_one_piece.ensures (flags_tokens c.args.vendor c.args.mandatory c.args.protected)
    (rw c.avp_flags_member_text.ensures (of_flags c.args.vendor c.args.mandatory c.args.protected)))
