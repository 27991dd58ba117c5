use Rattle.dm_view.proofs.json_avps.+telling.Goals as goal

pub put_group_data-returns-then-depth-eq0 : goal.put_group_data-returns-then-depth-eq0
put_group_data-returns-then-depth-eq0 t c = rw c.if-depth-eq0.true c.put_flaw_and_octets_object.ensures
