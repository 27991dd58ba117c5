-- The law as it is proved for accounts.
use Rattle.dm_flows.proofs.Accounting.{each_accounted}
use Rattle.dm_flows.proofs.laws.octets_of_payloads_add_up.Goals as goal

pub returns : goal.returns
returns c = each_accounted
