-- What the parts take.
use Rattle.dm_base.specs.Codes.{success, origin_host, origin_realm}
use Rattle.dm_base.specs.Built.{avp, result_avp, state_avps}
use Rattle.dm_base.proofs.Written.{sized_behind}
use Rattle.dm_base.proofs.success.success_avps_size.Goals as goal

pub returns-clause-size : goal.returns-clause-size
returns-clause-size c =
    let n = c.args.node.now in
    sized_behind (result_avp success) (avp origin_host n.host) (avp origin_realm n.realm) (state_avps c.args.state) _ _
    c.success_and_origin_size.ensures.size c.origin_state_id_size.ensures.size
