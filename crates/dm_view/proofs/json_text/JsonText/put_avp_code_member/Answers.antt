use Rattle.std.proofs.Common.{codes}
use Rattle.dm_view.proofs.JsonPrinted.{code_key}
use Rattle.dm_view.proofs.json_text.JsonText.put_avp_code_member.Goals as goal

pub put_printed_key_and_number-requires : goal.put_printed_key_and_number-requires
put_printed_key_and_number-requires c = (codes "code", code_key)

pub returns : goal.returns
returns c = rw (← c.self.view_is) (c.put_printed_key_and_number.ensures (codes "code") code_key)
