-- Nothing is left where its neighbour is open on the connection that it held.
use Rattle.std.proofs.Common.{ap, ◌∙◌}
use Rattle.dm_slots.specs.Held.{intakes_of, owners_of}
use Rattle.dm_node.specs.NodeStates.{concerned_in}
use Rattle.dm_node.specs.Owning.{has}
use Rattle.dm_node.proofs.Owned.{held_as_before}
use Rattle.dm_node.proofs.Raised.{nothing_left, raised_settled, takes_as_before}
use Rattle.dm_node.proofs.settling.settle_connections.Goals as goal

pub returns-then-told-clause-settled : goal.returns-then-told-clause-settled
returns-then-told-clause-settled c =
    nothing_left c.args.most (intakes_of c.args.slots.now) c.args.told.before
    (concerned_in c.args.neighbours.now c.args.answer.now.neighbour) c.args.answer.now.actions.items
    (c.requires.stays c.if-told.true)

pub returns-then-told-clause-owned : goal.returns-then-told-clause-owned
returns-then-told-clause-owned c = λ ps is owned.
    let stays = c.requires.stays c.if-told.true in
    held_as_before ps c.args.neighbours.now c.args.answer.now.neighbour c.args.told.before
    (owners_of c.args.slots.now) c.neighbours_are_apart_and_sound.ensures.apart.apart is
    (λ d. ap (λ h. has h d) stays.only ∙ stays.held d) owned

pub returns-then-told-clause-raised : goal.returns-then-told-clause-raised
returns-then-told-clause-raised c = λ ps is raised.
    let o = concerned_in c.args.neighbours.now c.args.answer.now.neighbour in
    let actions = c.args.answer.now.actions.items in
    let old = intakes_of c.args.slots.now in
    let stays = c.requires.stays c.if-told.true in
    raised_settled c.args.most ps c.args.neighbours.now c.args.answer.now.neighbour c.args.told.before actions old old is
    (nothing_left c.args.most old c.args.told.before o actions stays)
    (λ d stands. takes_as_before c.args.most old c.args.told.before o actions d stays stands) raised

pub returns-clause-raised : goal.returns-clause-raised
returns-clause-raised c = λ ps is raised.
    raised_settled c.args.most ps c.args.neighbours.now c.args.answer.now.neighbour c.args.told.before
    c.args.answer.now.actions.items (intakes_of c.args.slots.now)
    (intakes_of c.settle_changed_connections.new.slots) is c.settle_changed_connections.ensures.settled
    c.settle_changed_connections.ensures.raised raised
