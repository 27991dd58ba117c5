-- What the neighbour held goes, and what others hold is there.
use Rattle.dm_slots.specs.Held.{intakes_of, owners_of}
use Rattle.dm_node.specs.Holding.{peer_at}
use Rattle.dm_node.specs.NodeKnown.{known_of}
use Rattle.dm_node.proofs.NodeEmptying.{held_set}
use Rattle.dm_node.proofs.NodeKnowing.{known_back}
use Rattle.dm_node.proofs.Owning.{owned_set}
use Rattle.dm_node.proofs.Raised.{raised_set, back_is_closed}
use Rattle.dm_node.proofs.Rostered.{back_holds}
use Rattle.dm_node.proofs.node.Node.reset_peer_and_shut_held.Goals as goal

pub invariant_of-self : goal.invariant_of-self
invariant_of-self c =
    let ps = c.args.self.now.neighbours in
    record {
      held = held_set ps c.reset_neighbour.new.self c.args.index _ (intakes_of c.args.self.now.intakes)
          (intakes_of c.shut_held.new.intakes) c.reset_neighbour.ensures
          (c.shut_held.ensures.shut (peer_at ps c.args.index) c.held_connections-held.ensures.holds) c.neighbours_are_apart_and_sound.ensures.apart.apart
          (λ d. back_holds d (peer_at ps c.args.index)) c.args.self.now.held;
      raised = raised_set c.args.self.now.most ps c.reset_neighbour.new.self c.args.index _ (peer_at ps c.args.index)
          (intakes_of c.args.self.now.intakes) (intakes_of c.shut_held.new.intakes) c.reset_neighbour.ensures
          (c.shut_held.ensures.shut (peer_at ps c.args.index) c.held_connections-held.ensures.holds)
          (λ d. back_is_closed d (peer_at ps c.args.index)) c.args.self.now.raised;
      owned = owned_set ps c.reset_neighbour.new.self c.args.index _ c.held_connections-held.result
          (owners_of c.args.self.now.intakes) (owners_of c.shut_held.new.intakes) c.reset_neighbour.ensures
          (λ d. back_holds d (peer_at ps c.args.index)) c.neighbours_are_apart_and_sound.ensures.apart.apart c.held_connections-held.ensures.holds
          c.shut_held.ensures.owners c.args.self.now.owned;
      met = known_back ps _ (known_of c.args.self.now.known) c.args.index c.args.self.now.met
          c.reset_neighbour.ensures;
    }
