-- What is appended in turn are the AVPs in a list.
use Rattle.dm_base.specs.Codes.{success, origin_host, origin_realm}
use Rattle.dm_base.specs.Built.{avp, result_avp, state_avps}
use Rattle.dm_base.proofs.Written.{list_behind}
use Rattle.dm_base.proofs.success.push_success_avps.Goals as goal

pub returns-clause-put : goal.returns-clause-put
returns-clause-put c =
    let n = c.args.node.now in
    list_behind (result_avp success) (avp origin_host n.host) (avp origin_realm n.realm) (state_avps c.args.state)
    c.args.out.now.items _ _ c.in_ok-push_success_and_origin.ensures.put c.in_ok-push_origin_state_id_octets.ensures.put
