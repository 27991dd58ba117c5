-- Where nothing is told all was taken, and where memory is wanted what was taken is taken away again.
use Rattle.std.proofs.Common.{Option, None, Some, IfNone, take, ap, ◌∙◌}
use Rattle.dm_node.specs.NodeSeen.{node_state_of}
use Rattle.dm_node.specs.NodeStates.{NodeTurn, node_unfed}
use Rattle.dm_node.specs.Answers.{turn_in}
use Rattle.dm_node.proofs.NodeHeard.{nothing_heard, kept_next, taken_back}
use Rattle.dm_node.proofs.node.Node.keep_front_and_tell.Goals as goal

none_so : (o : Option NodeTurn) (P Q : Type 0) → (P → Q) → IfNone o P → IfNone o Q
none_so None P Q f h = f h
none_so (Some turn) P Q f h = tt

pub returns-in-Ok-next-clause-none : goal.returns-in-Ok-next-clause-none
returns-in-Ok-next-clause-none g c =
    none_so (turn_in c.args.conn c.next.new.answer) _ _
    (λ h. nothing_heard c.args.conn c.args.piece.now c.in-Ok.size (node_state_of c.args.self.now)
    (node_state_of c.keep_front_or_discard.new.self) (node_state_of c.next.new.self) c.in-Ok.ensures.taken c.in-Ok.ensures.fed
    h.0 h.1) c.in-Ok-next.ensures.none

pub returns-in-Err-next-clause-unchanged : goal.returns-in-Err-next-clause-unchanged
returns-in-Err-next-clause-unchanged g c =
    c.take_back.ensures.back
    ∙ ap (node_unfed c.args.conn c.in-Ok.size) (c.in-Err-next.ensures.unchanged ∙ c.in-Ok.ensures.fed)
    ∙ taken_back c.taking_back_undoes_feeding.ensures c.args.conn c.args.piece.now c.in-Ok.size
    (node_state_of c.args.self.now) c.in-Ok.ensures.taken

pub returns-in-Err-next-clause-memory : goal.returns-in-Err-next-clause-memory
returns-in-Err-next-clause-memory g c =
    kept_next (g.S.Strangers.policy c.args.strangers.now) c.args.conn c.args.piece.now
    (take c.in-Ok.size c.args.piece.now) (node_state_of c.args.self.now) (node_state_of c.keep_front_or_discard.new.self)
    c.in-Ok.ensures.fed c.requires.not_whole c.in-Err-next.ensures.memory
