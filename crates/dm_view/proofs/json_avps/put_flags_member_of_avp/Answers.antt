use Rattle.dm_view.proofs.json_avps.put_flags_member_of_avp.Goals as goal

pub returns : goal.returns
returns c = rw (← c.is_some.ensures) c.put_avp_flags_member.ensures
