-- What the neighbour held goes, and what others hold is there.
use Rattle.std.proofs.Common.{refl, sym, subst}
use Rattle.dm_slots.specs.Held.{intakes_of, owners_of}
use Rattle.dm_node.specs.Holding.{peer_at}
use Rattle.dm_node.specs.NodeKnown.{known_of, AreKnown}
use Rattle.dm_node.specs.NodeSeen.{node_state_of}
use Rattle.dm_node.proofs.NodeKnowing.{known_fewer}
use Rattle.dm_node.proofs.NodeStaying.{node_is}
use Rattle.dm_node.proofs.NodeEmptying.{held_set}
use Rattle.dm_node.proofs.Owning.{owned_set}
use Rattle.dm_node.proofs.Raised.{raised_set}
use Rattle.dm_node.proofs.node.Node.remove.Goals as goal

pub invariant_of-self : goal.invariant_of-self
invariant_of-self c =
    let ps = c.args.self.now.neighbours in
    record {
      held = held_set ps _ c.args.index _ (intakes_of c.args.self.now.intakes)
          (intakes_of c.shut_held.new.intakes) c.remove-gone.ensures.without
          (c.shut_held.ensures.shut (peer_at ps c.args.index) c.held_connections-held.ensures.holds) c.neighbours_are_apart_and_sound.ensures.apart.apart
          (λ d. refl) c.args.self.now.held;
      raised = raised_set c.args.self.now.most ps _ c.args.index _ (peer_at ps c.args.index)
          (intakes_of c.args.self.now.intakes) (intakes_of c.shut_held.new.intakes) c.remove-gone.ensures.without
          (c.shut_held.ensures.shut (peer_at ps c.args.index) c.held_connections-held.ensures.holds) (λ d. refl)
          c.args.self.now.raised;
      owned = owned_set ps _ c.args.index _ c.held_connections-held.result (owners_of c.args.self.now.intakes) (owners_of c.shut_held.new.intakes)
          c.remove-gone.ensures.without (λ d. refl) c.neighbours_are_apart_and_sound.ensures.apart.apart c.held_connections-held.ensures.holds
          c.shut_held.ensures.owners c.args.self.now.owned;
      met = subst (AreKnown _) (sym c.vacate_place.ensures)
          (known_fewer ps _ (known_of c.args.self.now.known) c.args.index c.args.self.now.met
          c.remove-gone.ensures.without);
    }

pub returns-clause-without : goal.returns-clause-without
returns-clause-without c =
    node_is (node_state_of c.args.self.now) _ _ _ _ c.remove-gone.ensures.without
    (c.shut_held.ensures.shut (peer_at c.args.self.now.neighbours c.args.index) c.held_connections-held.ensures.holds)
