-- What stands at the front is told, and goes, and whom it met is known.
use Rattle.std.proofs.Common.{refl, sym, subst, inl, inr}
use Rattle.dm_slots.specs.Held.{intakes_of, owners_of}
use Rattle.dm_node.specs.NodeHeld.{AllHeldAreThere, AreRaised}
use Rattle.dm_node.specs.NodeKnown.{known_of, NodeMeetsMessage}
use Rattle.dm_node.specs.NodeSeen.{node_state_of, node_known_of}
use Rattle.dm_node.specs.NodeStates.{NodeTellsMessage}
use Rattle.dm_node.specs.Answers.{as_answer}
use Rattle.dm_node.proofs.NodeStaying.{held_with, arrived_there, node_at, settled_as}
use Rattle.dm_node.proofs.Owning.{owned_same}
use Rattle.dm_node.proofs.Raised.{raised_with}
use Rattle.dm_node.proofs.node.Node.next.Goals as goal

pub returns-in-Ok-clause-turn : goal.returns-in-Ok-clause-turn
returns-in-Ok-clause-turn g c =
    let policy = g.S.Strangers.policy c.args.strangers.now in
    let at = c.in-Message.ensures in
    let old = node_state_of c.args.self.now in
    let qs = c.tell_message.new.neighbours in
    let gone = c.skip_front_message.ensures.skipped at.0 c.in-Message.message.now at.1 at.2 at.3 in
    let told : NodeTellsMessage policy c.args.conn old (as_answer c.tell_message.new.answer)
    (node_at old qs (intakes_of c.settle_connections.new.slots)) =
    record {
      intake = at.0;
      message = c.in-Message.message.now;
      rest = at.1;
      there = at.2;
      first = at.3;
      told = record {
        peers = qs;
        moved = c.in-Ok.ensures.told;
        left = settled_as old qs c.tell_message.new.answer.neighbour
            c.tell_message.new.answer.actions.items _ _ _ c.settle_connections.ensures.settled gone;
      };
    } in
    (refl, told)

pub invariant_of-self-in-Ok : goal.invariant_of-self-in-Ok
invariant_of-self-in-Ok g c =
    let at = c.in-Message.ensures in
    let ps = c.args.self.now.neighbours in
    let most = c.args.self.now.most in
    record {
      held = c.settle_connections.ensures.held;
      raised = c.settle_connections.ensures.raised ps c.in-Ok.ensures.before
          (subst (AreRaised most ps)
          (sym (c.skip_front_message.ensures.skipped at.0 c.in-Message.message.now at.1 at.2 at.3))
          (raised_with most ps c.args.conn.0 at.0 (record at.0 { octets = at.1 }) (intakes_of c.args.self.now.intakes) at.2
          refl c.args.self.now.raised));
      owned = c.settle_connections.ensures.owned c.args.self.now.neighbours c.in-Ok.ensures.before
          (owned_same c.args.self.now.neighbours (owners_of c.args.self.now.intakes)
          (owners_of c.skip_front_message.new.self) c.skip_front_message.ensures.owners c.args.self.now.owned);
      met = c.tell_message.ensures.places;
    }

pub returns-in-Err-clause-memory : goal.returns-in-Err-clause-memory
returns-in-Err-clause-memory g c =
    let at = c.in-Message.ensures in
    elim c.in-Err.ensures.memory [
      | inl wants ↦ inl (inl (at.0, c.in-Message.message.now, at.1, at.2, at.3, wants))
      | inr copied ↦ inr (record {
        intake = at.0;
        message = c.in-Message.message.now;
        rest = at.1;
        there = at.2;
        first = at.3;
        copied = copied;
      })
    ]

pub returns-in-Ok-clause-met : goal.returns-in-Ok-clause-met
returns-in-Ok-clause-met g c =
    let at = c.in-Message.ensures in
    let old = node_state_of c.args.self.now in
    let qs = c.tell_message.new.neighbours in
    let new = node_at old qs (intakes_of c.settle_connections.new.slots) in
    let ks = node_known_of c.args.self.now in
    let ls = known_of c.tell_message.new.known in
    let answer = as_answer c.tell_message.new.answer in
    let message = c.in-Message.message.now in
    let met : NodeMeetsMessage c.args.conn old answer new ks ls = record {
      intake = at.0;
      message = message;
      rest = at.1;
      there = at.2;
      first = at.3;
      known = c.in-Ok.ensures.met;
    } in
    met

pub settle_connections-requires-clause-there : goal.settle_connections-requires-clause-there
settle_connections-requires-clause-there g c =
    let at = c.in-Message.ensures in
    let message = c.in-Message.message.now in
    let old = intakes_of c.args.self.now.intakes in
    let qs = c.tell_message.new.neighbours in
    subst (AllHeldAreThere qs) (sym (c.skip_front_message.ensures.skipped at.0 message at.1 at.2 at.3))
    (held_with c.connections_stay_until_closed.ensures.told qs c.args.conn.0 (record at.0 { octets = at.1 }) old
    (c.tell_message.ensures.held old c.args.self.now.held (arrived_there c.args.conn message at.0 old at.2)))

pub settle_connections-requires-clause-stays : goal.settle_connections-requires-clause-stays
settle_connections-requires-clause-stays g c =
    let at = c.in-Message.ensures in
    let ps = c.args.self.now.neighbours in
    let most = c.args.self.now.most in
    c.in-Ok.ensures.stays most (intakes_of c.skip_front_message.new.self)
    (subst (AreRaised most ps)
    (sym (c.skip_front_message.ensures.skipped at.0 c.in-Message.message.now at.1 at.2 at.3))
    (raised_with most ps c.args.conn.0 at.0 (record at.0 { octets = at.1 }) (intakes_of c.args.self.now.intakes) at.2 refl
    c.args.self.now.raised))
