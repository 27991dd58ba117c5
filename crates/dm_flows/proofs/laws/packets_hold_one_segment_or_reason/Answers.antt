-- The laws as they are proved for segments.
use Rattle.dm_flows.proofs.OneSegment.{one_segment, segment_or_reason, one_reason}
use Rattle.dm_flows.proofs.laws.packets_hold_one_segment_or_reason.Goals as goal

pub returns-clause-segment : goal.returns-clause-segment
returns-clause-segment c = one_segment

pub returns-clause-either : goal.returns-clause-either
returns-clause-either c = segment_or_reason

pub returns-clause-reason : goal.returns-clause-reason
returns-clause-reason c = one_reason
