use Rattle.std.proofs.Common.{◌∙◌}
use Rattle.std.proofs.lemmas.Result.{IfOk-at_ok}
use Rattle.dm_live.specs.Beginnings.{IsNodeOf}
use Rattle.dm_live.specs.Drafts.{settings_of}
use Rattle.dm_live.proofs.Joining.{first_refused}
use Rattle.dm_live.proofs.configuration.Draft.config_for_first_peer.Goals as goal

pub returns-in_ok-config_fault_name-in-Err-new-clause-fault : goal.returns-in_ok-config_fault_name-in-Err-new-clause-fault
returns-in_ok-config_fault_name-in-Err-new-clause-fault c =
    let s = settings_of c.args.self.now in
    let made = IfOk-at_ok (IsNodeOf s) c.in-Ok.is c.in_ok-node.ensures.made in
    let named = c.in_ok-config_fault_name-in-Err-new.ensures in
    first_refused s _ _ _ _ (IfOk-at_ok _ c.in-Ok.is c.in_ok-node.ensures.good) made.host
    (c.in_ok-peer.ensures.items ∙ c.first_peer_host.ensures) c.in-Err-new.ensures.fault named.known named.name
