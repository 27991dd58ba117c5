-- What is appended in turn are the AVPs in a list.
use Rattle.std.proofs.Common.{◌∙◌, ap}
use Rattle.dm_base.specs.Codes.{success, origin_host, origin_realm}
use Rattle.dm_base.specs.Built.{avp, result_avp}
use Rattle.dm_base.proofs.Written.{list_put}
use Rattle.dm_base.proofs.success.push_success_and_origin.Goals as goal

pub returns-clause-put : goal.returns-clause-put
returns-clause-put c =
    let n = c.args.node.now in
    list_put (result_avp success) (avp origin_host n.host) (avp origin_realm n.realm) _ _ _ c.args.out.now.items _ _ _
    (c.borrowed_mandatory_avp.ensures ∙ ap (avp _) c.to_be_bytes.ensures)
    (c.borrowed_mandatory_avp-2.ensures ∙ ap (avp origin_host) c.as_slice.ensures)
    (c.borrowed_mandatory_avp-3.ensures ∙ ap (avp origin_realm) c.as_slice-2.ensures)
    c.in_ok-push_avp.ensures.put c.in_ok-push_avp-2.ensures.put c.in_ok-push_avp-3.ensures.put
