-- What nobody holds may go.
use Rattle.std.proofs.Common.{sym, subst}
use Rattle.dm_slots.specs.Held.{intakes_of, owners_of}
use Rattle.dm_node.specs.NodeHeld.{AllHeldAreThere, AreRaised}
use Rattle.dm_node.proofs.NodeStaying.{held_shut}
use Rattle.dm_node.proofs.Owning.{owned_shut}
use Rattle.dm_node.proofs.Raised.{raised_shut}
use Rattle.dm_node.proofs.node.Node.shut.Goals as goal

pub invariant_of-self : goal.invariant_of-self
invariant_of-self c =
    let ps = c.args.self.now.neighbours in
    record {
      held = subst (AllHeldAreThere ps) (sym c.shut.ensures.shut)
          (held_shut c.connections_stay_until_closed.ensures.shut ps c.args.conn (intakes_of c.args.self.now.intakes)
          c.args.self.now.held c.requires);
      raised = subst (AreRaised c.args.self.now.most ps) (sym c.shut.ensures.shut)
          (raised_shut c.args.self.now.most ps c.args.conn.0 (intakes_of c.args.self.now.intakes) c.args.self.now.raised);
      owned = owned_shut ps c.args.conn (owners_of c.args.self.now.intakes) (owners_of c.shut.new.self) c.requires c.shut.ensures.owners
          c.args.self.now.owned;
      met = c.args.self.now.met;
    }
