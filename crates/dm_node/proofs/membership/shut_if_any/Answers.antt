-- The connection is the one that is shut.
use Rattle.std.proofs.Common.{◌∙◌, ap, sym, None, cond}
use Rattle.dm_peer.specs.Places.{is_on}
use Rattle.dm_slots.specs.Held.{intakes_of, owners_of}
use Rattle.dm_node.proofs.membership.shut_if_any.Goals as goal

pub returns-in-Some-clause-shut : goal.returns-in-Some-clause-shut
returns-in-Some-clause-shut c = λ d.
    ap (λ f. f d) c.shut.ensures.shut
    ∙ sym (ap (λ o. cond (is_on o (record { 0 = d })) None (intakes_of c.args.intakes.now d)) c.in-Some.is)

pub returns-in-Some-clause-owners : goal.returns-in-Some-clause-owners
returns-in-Some-clause-owners c = λ d.
    ap (λ f. f d.0) c.shut.ensures.owners
    ∙ sym (ap (λ o. cond (is_on o d) None (owners_of c.args.intakes.now d.0)) c.in-Some.is)
