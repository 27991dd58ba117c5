-- Of each neighbour something is known, and of nobody else.
use Rattle.std.proofs.Common.{sym, ap, ◌∙◌, is_some}
use Rattle.dm_node.specs.NodeSeen.{node_known_of}
use Rattle.dm_node.proofs.NodeKnowing.{present_at, there_copied}
use Rattle.dm_node.proofs.node.Node.known.Goals as goal

pub returns-clause-there : goal.returns-clause-there
returns-clause-there c =
    sym (there_copied c.get.result) ∙ ap (λ o. is_some o) c.get.ensures
    ∙ present_at c.args.self.now.neighbours (node_known_of c.args.self.now) c.args.index c.args.self.now.met
