-- The laws as they are proved for SCTP.
use Rattle.dm_flows.proofs.OneSctp.{one_sctp, sctp_or_reason, one_sctp_reason}
use Rattle.dm_flows.proofs.sctp_laws.packets_hold_one_sctp_or_reason.Goals as goal

pub returns-clause-packet : goal.returns-clause-packet
returns-clause-packet c = one_sctp

pub returns-clause-either : goal.returns-clause-either
returns-clause-either c = sctp_or_reason

pub returns-clause-reason : goal.returns-clause-reason
returns-clause-reason c = one_sctp_reason
