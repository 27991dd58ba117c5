-- Where there is such a node, why none begins is why it can't have its peers.
use Rattle.std.proofs.Common.{rules}
use Rattle.std.proofs.lemmas.Result.{IfOk-at_ok}
use Rattle.dm_live.specs.Drafts.{settings_of}
use Rattle.dm_live.proofs.Joining.{goes_by_peers}
use Rattle.dm_live.proofs.peers.node_with_peers.Goals as goal

pub returns-in-Ok-Ok-clause-good : goal.returns-in-Ok-Ok-clause-good
returns-in-Ok-Ok-clause-good c =
    let so = goes_by_peers (settings_of c.args.draft.now) (IfOk-at_ok _ c.in-Ok.is c.in_ok-config.ensures.good)
    (IfOk-at_ok _ c.in-Ok.is c.in_ok-config.ensures.peer) in
    search (rules, so, c.in-Ok-Ok.ensures, c.in-Ok-Ok.is, c.in-Ok-Ok.field-0-is)

pub returns-in-Ok-Err-clause-fault : goal.returns-in-Ok-Err-clause-fault
returns-in-Ok-Err-clause-fault c =
    let so = goes_by_peers (settings_of c.args.draft.now) (IfOk-at_ok _ c.in-Ok.is c.in_ok-config.ensures.good)
    (IfOk-at_ok _ c.in-Ok.is c.in_ok-config.ensures.peer) in
    search (rules, so, c.in-Ok-Err.ensures, c.in-Ok-Err.is, c.in-Ok-Err.field-0-is, c.in-Ok-Err.name-is)
