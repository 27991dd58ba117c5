-- Both are shut.
use Rattle.std.proofs.Common.{◌∙◌, ap, sym, None, cond}
use Rattle.dm_peer.specs.Places.{is_on}
use Rattle.dm_slots.specs.Held.{intakes_of, owners_of}
use Rattle.dm_node.proofs.NodeEmptying.{shut_both}
use Rattle.dm_node.proofs.Owned.{two}
use Rattle.dm_node.proofs.membership.shut_held.Goals as goal

pub returns-clause-shut : goal.returns-clause-shut
returns-clause-shut c = λ p holds.
    shut_both c.args.held.initiated c.args.held.accepted p (intakes_of c.args.intakes.now)
    (intakes_of c.shut_if_any.new.intakes) (intakes_of c.shut_if_any-2.new.intakes) (λ d. sym (holds d))
    c.shut_if_any.ensures.shut c.shut_if_any-2.ensures.shut

pub returns-clause-owners : goal.returns-clause-owners
returns-clause-owners c = λ d.
    c.shut_if_any-2.ensures.owners d
    ∙ ap (cond (is_on c.args.held.accepted d) None) (c.shut_if_any.ensures.owners d)
    ∙ two (is_on c.args.held.initiated d) (is_on c.args.held.accepted d) (owners_of c.args.intakes.now d.0)
