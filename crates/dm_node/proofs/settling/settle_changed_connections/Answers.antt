-- What is left, and what is raised.
use Rattle.std.proofs.Common.{sym, ap, subst, ◌∙◌}
use Rattle.dm_machine.specs.Moves.{is_open}
use Rattle.dm_slots.specs.Held.{intakes_of, owners_of}
use Rattle.dm_slots.specs.Intakes.{left_by}
use Rattle.dm_node.specs.NodeHeld.{AllHeldAreThere}
use Rattle.dm_node.specs.NodeStates.{concerned_in}
use Rattle.dm_node.proofs.NodeStaying.{held_left, concerned_there, raised_so}
use Rattle.dm_node.proofs.Owning.{owned_left}
use Rattle.dm_node.proofs.Raised.{raised_where_open}
use Rattle.dm_node.proofs.settling.settle_changed_connections.Goals as goal

pub update_owners-requires : goal.update_owners-requires
update_owners-requires c = record {
  there = λ d held.
      concerned_there c.args.neighbours.now (intakes_of c.args.slots.now) c.args.answer.now.neighbour d c.requires.there
      (sym (c.snapshot-after.ensures.held d) ∙ held);
}

pub returns-clause-settled : goal.returns-clause-settled
returns-clause-settled c =
    let after = c.snapshot-after.result in
    let left = left_by c.args.answer.now.actions.items (intakes_of c.args.slots.now) in
    let raised =
    rw (c.shut_connections_closed_by.ensures.left, c.as_slice.ensures.value, c.update_owners.ensures.intakes) at c.set_max_message_len_if_open.ensures.raised in
    raised
    ∙ raised_so (concerned_in c.args.neighbours.now c.args.answer.now.neighbour) after.state after.held.initiated
    after.held.accepted c.is_open.result c.args.most left c.is_open.ensures c.snapshot-after.ensures.state
    c.snapshot-after.ensures.initiated c.snapshot-after.ensures.accepted

pub returns-clause-held : goal.returns-clause-held
returns-clause-held c =
    let ps = c.args.neighbours.now in
    let after = c.snapshot-after.result in
    let left = left_by c.args.answer.now.actions.items (intakes_of c.args.slots.now) in
    let raised =
    rw (c.shut_connections_closed_by.ensures.left, c.as_slice.ensures.value, c.update_owners.ensures.intakes) at c.set_max_message_len_if_open.ensures.raised in
    let settled = raised
    ∙ raised_so (concerned_in ps c.args.answer.now.neighbour) after.state after.held.initiated
    after.held.accepted c.is_open.result c.args.most left c.is_open.ensures c.snapshot-after.ensures.state
    c.snapshot-after.ensures.initiated c.snapshot-after.ensures.accepted in
    subst (AllHeldAreThere ps) (sym settled)
    (held_left c.connections_stay_until_closed.ensures.closed c.connections_stay_until_closed.ensures.raised ps
    c.args.answer.now.actions.items c.args.most (concerned_in ps c.args.answer.now.neighbour)
    (intakes_of c.args.slots.now) c.requires.there c.requires.free)

pub returns-clause-owned : goal.returns-clause-owned
returns-clause-owned c = λ ps is owned.
    let qs = c.args.neighbours.now in
    owned_left qs c.args.answer.now.actions.items (owners_of c.update_owners.new.slots)
    (owners_of c.set_max_message_len_if_open.new.self) c.requires.free
    (c.set_max_message_len_if_open.ensures.owners ∙ rw (c.as_slice.ensures.value) at c.shut_connections_closed_by.ensures.owners)
    (c.update_owners.ensures.owned ps qs c.neighbours_are_apart_and_sound.ensures.apart.apart c.snapshot-after.ensures.held is owned)

pub returns-clause-raised : goal.returns-clause-raised
returns-clause-raised c = λ d stands.
    let after = c.snapshot-after.result in
    let o = concerned_in c.args.neighbours.now c.args.answer.now.neighbour in
    raised_where_open c.args.most after.held o c.is_open.result (intakes_of c.shut_connections_closed_by.new.self)
    (intakes_of c.set_max_message_len_if_open.new.self) d c.set_max_message_len_if_open.ensures.raised
    (c.is_open.ensures ∙ ap is_open c.snapshot-after.ensures.state) (c.snapshot-after.ensures.held d) stands
