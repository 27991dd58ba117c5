-- A neighbour more holds nothing.
use Rattle.std.proofs.Common.{is_some, map, sym, ap, ◌∙◌}
use Rattle.dm_history.specs.History.{new_peer}
use Rattle.dm_node.specs.NodeKnown.{known_of, with_nobody}
use Rattle.dm_node.proofs.NodeEmptying.{held_added}
use Rattle.dm_node.proofs.NodeKnowing.{known_more}
use Rattle.dm_node.proofs.Owning.{owned_added}
use Rattle.dm_node.proofs.Raised.{raised_added}
use Rattle.dm_slots.specs.Held.{intakes_of, owners_of}
use Rattle.dm_node.proofs.node.Node.add.Goals as goal

pub invariant_of-self : goal.invariant_of-self
invariant_of-self c =
    let ps = c.args.self.now.neighbours in
    let k = c.args.config in
    let added = c.in-Ok-push_new_peer.ensures.added in
    record {
      held = λ i d held. c.args.self.now.held i d (held_added ps _ k added d i held);
      raised = raised_added c.args.self.now.most ps _ k (intakes_of c.args.self.now.intakes) added c.args.self.now.raised;
      owned = owned_added c.push_new_peer.result ps _ k (owners_of c.args.self.now.intakes)
          c.push_new_peer.ensures.added c.push_new_peer.ensures.unchanged c.args.self.now.owned;
      met = ap (map is_some) (c.push_place.ensures ∙ ap with_nobody c.reserve_place.ensures.same)
          ∙ known_more ps (known_of c.args.self.now.known) (new_peer k k.first_id) c.args.self.now.met
          ∙ sym (ap (map is_some) added);
    }
