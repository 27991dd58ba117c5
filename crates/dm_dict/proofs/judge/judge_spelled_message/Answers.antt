-- Octets that spell AVPs have just those members.
use Rattle.std.proofs.Math.Facts.{Fits-lt-pow}
use Rattle.dm_dict.proofs.judge.judge_spelled_message.Goals as goal

pub returns-clause-fault : goal.returns-clause-fault
returns-clause-fault c =
    λ l spelled. c.judge_message.ensures.fault l
    ((c.members_are_what_octets_spell.ensures c.args.octets.now l (λ i. Fits-lt-pow (c.type_inv.octets i))).1 spelled)
