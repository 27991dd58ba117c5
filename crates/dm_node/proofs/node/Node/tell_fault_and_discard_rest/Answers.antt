-- The fault at the front is told, and what came goes.
use Rattle.std.proofs.Common.{refl, sym, subst, []}
use Rattle.dm_slots.specs.Intakes.{broken_intake}
use Rattle.dm_slots.specs.Held.{intakes_of, owners_of}
use Rattle.dm_node.specs.NodeHeld.{AllHeldAreThere, AreRaised}
use Rattle.dm_node.specs.NodeSeen.{node_state_of}
use Rattle.dm_node.proofs.NodeKnowing.{none_calls}
use Rattle.dm_node.proofs.NodeStaying.{held_with, arrived_there, settled_as}
use Rattle.dm_node.proofs.Owning.{owned_same}
use Rattle.dm_node.proofs.Raised.{raised_with}
use Rattle.dm_node.proofs.node.Node.tell_fault_and_discard_rest.Goals as goal

pub returns-in-Ok-clause-told : goal.returns-in-Ok-clause-told
returns-in-Ok-clause-told g c =
    let at = c.requires.fault in
    let old = node_state_of c.args.self.now in
    let answer = c.tell_event.new.answer in
    let qs = c.tell_event.new.neighbours in
    record {
      intake = at.0;
      there = at.1;
      faulty = at.2;
      told = record {
        peers = qs;
        moved = c.in-Ok.ensures.told;
        left = settled_as old qs answer.neighbour answer.actions.items _ _ _
            c.settle_connections.ensures.settled (c.discard_rest_of_stream.ensures.broken at.0 at.1);
      };
    }

pub invariant_of-self : goal.invariant_of-self
invariant_of-self g c =
    let at = c.requires.fault in
    let ps = c.args.self.now.neighbours in
    let most = c.args.self.now.most in
    record {
      held = c.settle_connections.ensures.held;
      raised = c.settle_connections.ensures.raised ps c.in-Ok.ensures.before
          (subst (AreRaised most ps) (sym (c.discard_rest_of_stream.ensures.broken at.0 at.1))
          (raised_with most ps c.args.conn.0 at.0 (broken_intake at.0) (intakes_of c.args.self.now.intakes) at.1 refl
          c.args.self.now.raised));
      owned = c.settle_connections.ensures.owned c.args.self.now.neighbours c.in-Ok.ensures.before
          (owned_same c.args.self.now.neighbours (owners_of c.args.self.now.intakes)
          (owners_of c.discard_rest_of_stream.new.self) c.discard_rest_of_stream.ensures.owners c.args.self.now.owned);
      met = c.tell_event.ensures.places;
    }

pub returns-in-Err-clause-memory : goal.returns-in-Err-clause-memory
returns-in-Err-clause-memory g c = c.in-Err.ensures.memory c.args.conn [] refl

-- no octets are no stranger's CER
pub tell_event-requires-clause-calm : goal.tell_event-requires-clause-calm
tell_event-requires-clause-calm g c = none_calls

pub settle_connections-requires-clause-there : goal.settle_connections-requires-clause-there
settle_connections-requires-clause-there g c =
    let at = c.requires.fault in
    let old = intakes_of c.args.self.now.intakes in
    let qs = c.tell_event.new.neighbours in
    subst (AllHeldAreThere qs) (sym (c.discard_rest_of_stream.ensures.broken at.0 at.1))
    (held_with c.connections_stay_until_closed.ensures.told qs c.args.conn.0 (broken_intake at.0) old
    (c.tell_event.ensures.held old c.args.self.now.held (arrived_there c.args.conn [] at.0 old at.1)))

pub settle_connections-requires-clause-stays : goal.settle_connections-requires-clause-stays
settle_connections-requires-clause-stays g c =
    let at = c.requires.fault in
    let ps = c.args.self.now.neighbours in
    let most = c.args.self.now.most in
    c.in-Ok.ensures.stays most (intakes_of c.discard_rest_of_stream.new.self)
    (subst (AreRaised most ps) (sym (c.discard_rest_of_stream.ensures.broken at.0 at.1))
    (raised_with most ps c.args.conn.0 at.0 (broken_intake at.0) (intakes_of c.args.self.now.intakes) at.1 refl
    c.args.self.now.raised))
