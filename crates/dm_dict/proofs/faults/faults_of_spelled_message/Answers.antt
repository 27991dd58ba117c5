-- Octets that spell AVPs have just those members.
use Rattle.std.proofs.Math.Facts.{Fits-lt-pow}
use Rattle.dm_dict.proofs.Listed.{under_ok, under_err}
use Rattle.dm_dict.proofs.faults.faults_of_spelled_message.Goals as goal

pub returns-clause-all : goal.returns-clause-all
returns-clause-all c =
    under_ok c.collect_faults.result _ _ (λ listed all l spelled. all l
    ((c.members_are_what_octets_spell.ensures c.args.octets.now l (λ i. Fits-lt-pow (c.type_inv.octets i))).1 spelled))
    c.collect_faults.ensures.all

pub returns-clause-memory : goal.returns-clause-memory
returns-clause-memory c =
    under_err c.collect_faults.result (λ some l spelled. some l
    ((c.members_are_what_octets_spell.ensures c.args.octets.now l (λ i. Fits-lt-pow (c.type_inv.octets i))).1 spelled))
    c.collect_faults.ensures.memory
