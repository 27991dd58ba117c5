-- What is there stays there.
use Rattle.dm_slots.specs.Intakes.{fed_intake, changed}
use Rattle.dm_slots.specs.Held.{intakes_of, owners_of}
use Rattle.dm_node.specs.NodeHeld.{AllHeldAreThere, AreRaised}
use Rattle.dm_node.proofs.NodeStaying.{held_changed, done_or_not}
use Rattle.dm_node.proofs.Owning.{owned_same}
use Rattle.dm_node.proofs.Raised.{raised_changed, fed_same}
use Rattle.dm_node.proofs.node.Node.keep.Goals as goal

pub invariant_of-self : goal.invariant_of-self
invariant_of-self c =
    let ps = c.args.self.now.neighbours in
    let old = intakes_of c.args.self.now.intakes in
    let fed = fed_intake c.args.piece.now in
    record {
      held = done_or_not c.feed.result (AllHeldAreThere ps) (changed c.args.conn.0 fed old) old
          (intakes_of c.feed.new.self) c.feed.ensures.fed c.feed.ensures.unchanged
          (held_changed c.connections_stay_until_closed.ensures.changed ps c.args.conn.0 fed old c.args.self.now.held)
          c.args.self.now.held;
      raised = done_or_not c.feed.result (AreRaised c.args.self.now.most ps) (changed c.args.conn.0 fed old) old
          (intakes_of c.feed.new.self) c.feed.ensures.fed c.feed.ensures.unchanged
          (raised_changed c.args.self.now.most ps c.args.conn.0 fed old (fed_same c.args.piece.now) c.args.self.now.raised)
          c.args.self.now.raised;
      owned = owned_same ps (owners_of c.args.self.now.intakes) (owners_of c.feed.new.self) c.feed.ensures.owners c.args.self.now.owned;
      met = c.args.self.now.met;
    }
