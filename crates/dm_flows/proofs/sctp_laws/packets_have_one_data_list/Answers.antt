-- The laws as they are proved for DATA chunks.
use Rattle.std.proofs.Common.{suc, length, arith}
use Rattle.dm_flows.proofs.OneDataList.{each_list, one_data_list}
use Rattle.dm_flows.proofs.sctp_laws.packets_have_one_data_list.Goals as goal

pub returns-clause-some : goal.returns-clause-some
returns-clause-some c s = each_list (suc (length s)) s (omega arith)

pub returns-clause-one : goal.returns-clause-one
returns-clause-one c = one_data_list
