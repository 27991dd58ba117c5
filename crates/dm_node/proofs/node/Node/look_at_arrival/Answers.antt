-- What is there stays there, and its owner holds it.
use Rattle.std.proofs.Common.{IfSome, IfNone, sym, subst, ap}
use Rattle.dm_slots.specs.Hearing.{IsWholeAt, IsNotWhole}
use Rattle.dm_slots.specs.Held.{owners_of}
use Rattle.dm_slots.specs.Intakes.{Intakes}
use Rattle.dm_node.specs.NodeHeld.{AllHeldAreThere, AreRaised}
use Rattle.dm_node.specs.NodeSeen.{node_state_of}
use Rattle.dm_node.proofs.NodeStaying.{node_at}
use Rattle.dm_node.proofs.Owned.{owner_holds, unowned_free}
use Rattle.dm_node.proofs.Owning.{owned_same}
use Rattle.dm_node.proofs.node.Node.look_at_arrival.Goals as goal

pub invariant_of-self : goal.invariant_of-self
invariant_of-self c =
    let ps = c.args.self.now.neighbours in
    record {
      held = subst (AllHeldAreThere ps) (sym c.look_at_arrival.ensures.intakes) c.args.self.now.held;
      raised = subst (AreRaised c.args.self.now.most ps) (sym c.look_at_arrival.ensures.intakes) c.args.self.now.raised;
      owned = owned_same ps (owners_of c.args.self.now.intakes) (owners_of c.look_at_arrival.new.self)
          c.look_at_arrival.ensures.owners c.args.self.now.owned;
      met = c.args.self.now.met;
    }

pub returns-clause-state : goal.returns-clause-state
returns-clause-state c =
    let old = node_state_of c.args.self.now in
    ap (node_at old c.args.self.now.neighbours) c.look_at_arrival.ensures.intakes

pub returns-clause-holder : goal.returns-clause-holder
returns-clause-holder c =
    let ps = c.args.self.now.neighbours in
    let owners = owners_of c.args.self.now.intakes in
    record {
      found = owner_holds ps owners c.args.conn c.look_at_arrival.result.owner c.look_at_arrival.ensures.owner
          c.args.self.now.owned;
      none = unowned_free ps owners c.args.conn c.look_at_arrival.result.owner c.look_at_arrival.ensures.owner
          c.args.self.now.owned;
    }

pub returns-clause-whole : goal.returns-clause-whole
returns-clause-whole c =
    subst (λ (f : Intakes). IfSome c.look_at_arrival.result.message_len (λ size. IsWholeAt (f c.args.conn.0) c.args.piece.now size))
    (sym c.look_at_arrival.ensures.intakes) c.look_at_arrival.ensures.whole

pub returns-clause-none : goal.returns-clause-none
returns-clause-none c =
    subst (λ (f : Intakes). IfNone c.look_at_arrival.result.message_len
    (IfSome (f c.args.conn.0) (λ i. IsNotWhole i c.args.piece.now))) (sym c.look_at_arrival.ensures.intakes)
    c.look_at_arrival.ensures.none
