-- What is there stays there.
use Rattle.std.proofs.Common.{sym, subst}
use Rattle.dm_slots.specs.Intakes.{unfed_intake}
use Rattle.dm_slots.specs.Held.{intakes_of, owners_of}
use Rattle.dm_node.specs.NodeHeld.{AllHeldAreThere, AreRaised}
use Rattle.dm_node.proofs.NodeStaying.{held_changed}
use Rattle.dm_node.proofs.Owning.{owned_same}
use Rattle.dm_node.proofs.Raised.{raised_changed, unfed_same}
use Rattle.dm_node.proofs.node.Node.take_back.Goals as goal

pub invariant_of-self : goal.invariant_of-self
invariant_of-self c =
    let ps = c.args.self.now.neighbours in
    let old = intakes_of c.args.self.now.intakes in
    record {
      held = subst (AllHeldAreThere ps) (sym c.take_back.ensures.back)
          (held_changed c.connections_stay_until_closed.ensures.changed ps c.args.conn.0 (unfed_intake c.args.size) old
          c.args.self.now.held);
      raised = subst (AreRaised c.args.self.now.most ps) (sym c.take_back.ensures.back)
          (raised_changed c.args.self.now.most ps c.args.conn.0 (unfed_intake c.args.size) old (unfed_same c.args.size)
          c.args.self.now.raised);
      owned = owned_same ps (owners_of c.args.self.now.intakes) (owners_of c.take_back.new.self)
          c.take_back.ensures.owners c.args.self.now.owned;
      met = c.args.self.now.met;
    }
