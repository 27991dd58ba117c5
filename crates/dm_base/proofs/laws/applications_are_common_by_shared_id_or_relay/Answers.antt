-- The law as it is proved of tests.
use Rattle.dm_base.proofs.Sharing.{common_shared, nodes_share, own_common, common_both}
use Rattle.dm_base.proofs.laws.applications_are_common_by_shared_id_or_relay.Goals as goal

pub returns-clause-caps : goal.returns-clause-caps
returns-clause-caps c = common_shared

pub returns-clause-nodes : goal.returns-clause-nodes
returns-clause-nodes c = nodes_share

pub returns-clause-own : goal.returns-clause-own
returns-clause-own c = own_common

pub returns-clause-both : goal.returns-clause-both
returns-clause-both c = common_both
