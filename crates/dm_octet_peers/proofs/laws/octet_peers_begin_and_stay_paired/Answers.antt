use Rattle.dm_octet_peers.proofs.KeepingWorld.{fresh_are_peers, happening_keeps_peers}
use Rattle.dm_octet_peers.proofs.laws.octet_peers_begin_and_stay_paired.Goals as goal

pub returns-clause-fresh : goal.returns-clause-fresh
returns-clause-fresh c = fresh_are_peers

pub returns-clause-kept : goal.returns-clause-kept
returns-clause-kept c =
    happening_keeps_peers
    (record { shape = c.steps_keep_shape_in_few_commands.ensures; winner = c.winners_never_enter_wait_returns.ensures })
