-- A Start outside Closed is refused.
use Rattle.std.proofs.Common.{rules, ap, sym, ◌∙◌, None, Some}
use Rattle.std.specs.Option.{option_copied}
use Rattle.dm_peer.specs.declared.fault.PeerFault.TheVariants.{NotClosed}
use Rattle.dm_node.proofs.Ruling.{start_declined, start_goes}
use Rattle.dm_node.proofs.node.Node.check_start.Goals as goal

pub returns-in-Closed-clause-rules : goal.returns-in-Closed-clause-rules
returns-in-Closed-clause-rules c =
    start_goes c.args.self.now.neighbours c.args.index c.args.conn c.in-Some.peer.now
    (sym c.peer.ensures ∙ ap option_copied c.in-Some.is) None (search rules)

pub returns-in_default-clause-declined : goal.returns-in_default-clause-declined
returns-in_default-clause-declined c =
    let peer = c.in-Some.peer.now in
    let at = sym c.peer.ensures ∙ ap option_copied c.in-Some.is in
    start_declined c.args.self.now.neighbours c.args.index c.args.conn peer at c.event_refusals_go_by_rule.ensures
    (c.neighbours_are_apart_and_sound.ensures.kept c.args.index peer at) NotClosed (search rules)

pub returns-in_default-clause-rules : goal.returns-in_default-clause-rules
returns-in_default-clause-rules c =
    start_goes c.args.self.now.neighbours c.args.index c.args.conn c.in-Some.peer.now
    (sym c.peer.ensures ∙ ap option_copied c.in-Some.is) (Some NotClosed) (search rules)
