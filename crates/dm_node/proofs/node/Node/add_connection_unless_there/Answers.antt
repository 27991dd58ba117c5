-- One more may be there.
use Rattle.dm_slots.specs.Intakes.{opened}
use Rattle.dm_slots.specs.Held.{intakes_of, owners_of}
use Rattle.dm_node.specs.NodeHeld.{AllHeldAreThere, AreRaised}
use Rattle.dm_node.proofs.NodeStaying.{held_opened, done_or_not}
use Rattle.dm_node.proofs.Owning.{owned_same}
use Rattle.dm_node.proofs.Raised.{raised_opened}
use Rattle.dm_node.proofs.node.Node.add_connection_unless_there.Goals as goal

pub invariant_of-self : goal.invariant_of-self
invariant_of-self c =
    let ps = c.args.self.now.neighbours in
    let old = intakes_of c.args.self.now.intakes in
    let max = c.args.self.now.first_max in
    record {
      held = done_or_not c.add_unless_there.result (AllHeldAreThere ps) (opened max c.args.conn.0 old) old
          (intakes_of c.add_unless_there.new.self) c.add_unless_there.ensures.opened c.add_unless_there.ensures.unchanged
          (held_opened c.connections_stay_until_closed.ensures.opened ps max c.args.conn.0 old c.args.self.now.held)
          c.args.self.now.held;
      raised = done_or_not c.add_unless_there.result (AreRaised c.args.self.now.most ps) (opened max c.args.conn.0 old)
          old (intakes_of c.add_unless_there.new.self) c.add_unless_there.ensures.opened
          c.add_unless_there.ensures.unchanged
          (raised_opened c.args.self.now.most max ps c.args.conn.0 old c.args.self.now.held c.args.self.now.raised)
          c.args.self.now.raised;
      owned = owned_same ps (owners_of c.args.self.now.intakes) (owners_of c.add_unless_there.new.self) c.add_unless_there.ensures.owners c.args.self.now.owned;
      met = c.args.self.now.met;
    }
