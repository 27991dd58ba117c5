-- Nobody holds anything.
use Rattle.std.proofs.Common.{ap}
use Rattle.dm_node.specs.Holding.{peer_at, holds_at}
use Rattle.dm_node.specs.NodeKnown.{known_of}
use Rattle.dm_node.proofs.NodeKnowing.{known_all_back}
use Rattle.dm_node.proofs.Basics.{two_truths}
use Rattle.dm_node.proofs.Owned.{none_owned}
use Rattle.dm_node.proofs.Raised.{open_holds}
use Rattle.dm_node.proofs.Rostered.{all_free}
use Rattle.dm_node.proofs.node.Node.reset_peers_and_shut_all.Goals as goal

pub invariant_of-self : goal.invariant_of-self
invariant_of-self c =
    let ps = c.args.self.now.neighbours in
    let free = all_free ps c.reset_all_neighbours.new.self c.reset_all_neighbours.ensures in
    record {
      held = λ i d held. absurd (two_truths (holds_at c.reset_all_neighbours.new.self d i) held (free d i));
      raised = λ i d stands. absurd (two_truths (holds_at c.reset_all_neighbours.new.self d i)
          (open_holds d (peer_at c.reset_all_neighbours.new.self i) stands) (free d i));
      owned = none_owned c.reset_all_neighbours.new.self _ free (λ d. ap (λ h. h d) c.clear.ensures.owners);
      met = known_all_back ps _ (known_of c.args.self.now.known) c.args.self.now.met c.reset_all_neighbours.ensures;
    }
