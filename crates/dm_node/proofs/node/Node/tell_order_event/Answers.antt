-- The event is told by no policy, what is held behind it is there, and whom it met is known.
use Rattle.std.proofs.Common.{rules, inr, refl, Ok, Err, Some}
use Rattle.dm_slots.specs.Held.{intakes_of}
use Rattle.dm_node.specs.Answers.{as_answer}
use Rattle.dm_node.specs.NodeOrders.{NodeTellsOnce}
use Rattle.dm_node.specs.NodeSeen.{node_state_of}
use Rattle.dm_node.proofs.NodeStaying.{node_at, settled_as}
use Rattle.dm_node.proofs.Ruling.{order_goes}
use Rattle.dm_node.proofs.node.Node.tell_order_event.Goals as goal

pub returns-in-Ok : goal.returns-in-Ok
returns-in-Ok c =
    let done = c.in-Ok.ensures in
    let old = node_state_of c.args.self.now in
    let answer = as_answer c.tell_event.new.answer in
    let qs = c.tell_event.new.neighbours in
    let new = node_at old qs (intakes_of c.settle_connections.new.slots) in
    let told : NodeTellsOnce c.args.event old (Some answer) new = (
      answer,
      refl,
      record {
        peers = qs;
        moved = done.told;
        left = settled_as old qs answer.neighbour answer.actions _ _ _ c.settle_connections.ensures.settled refl;
      },
    ) in
    let goes = order_goes c.args.event old.peers (Ok c.in-Ok.told) (Ok tt) (λ f other. absurd (cc)) tt done.rules in
    search (rules, done, told, goes)

pub settle_connections-requires-clause-there : goal.settle_connections-requires-clause-there
settle_connections-requires-clause-there c =
    c.tell_event.ensures.held (intakes_of c.args.self.now.intakes) c.args.self.now.held c.requires.there

pub settle_connections-requires-clause-stays : goal.settle_connections-requires-clause-stays
settle_connections-requires-clause-stays c =
    c.in-Ok.ensures.stays c.args.self.now.most (intakes_of c.args.self.now.intakes) c.args.self.now.raised

pub invariant_of-self : goal.invariant_of-self
invariant_of-self c =
    record {
      held = c.settle_connections.ensures.held;
      raised = c.settle_connections.ensures.raised c.args.self.now.neighbours c.in-Ok.ensures.before
          c.args.self.now.raised;
      owned = c.settle_connections.ensures.owned c.args.self.now.neighbours c.in-Ok.ensures.before
          c.args.self.now.owned;
      met = c.tell_event.ensures.places;
    }

pub returns-in-Err : goal.returns-in-Err
returns-in-Err c =
    let failed = c.in-Err.ensures in
    let goes = order_goes c.args.event c.args.self.now.neighbours (Err c.in-Err.fault) (Err c.in-Err.fault)
    (λ f same. cc) (inr (c.args.event, refl, failed.rules.by_rule.ruled)) failed.rules in
    search (rules, failed, failed.wants, goes)
