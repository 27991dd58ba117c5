-- The kind as it is proved for all nodes.
use Rattle.dm_base.proofs.Own.{kind_cer}
use Rattle.dm_base.proofs.requests.cer.Goals as goal

pub returns-in_err-push_capabilities-clause-kind : goal.returns-in_err-push_capabilities-clause-kind
returns-in_err-push_capabilities-clause-kind c = kind_cer c.args.node.now c.args.id

pub returns-clause-kind : goal.returns-clause-kind
returns-clause-kind c = kind_cer c.args.node.now c.args.id

pub returns-in_err-avps-clause-kind : goal.returns-in_err-avps-clause-kind
returns-in_err-avps-clause-kind c = kind_cer c.args.node.now c.args.id
