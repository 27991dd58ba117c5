-- What is made for who calls, and why nothing is.
use Rattle.std.proofs.Common.{inl, inr, arith}
use Rattle.std.proofs.lemmas.Result.{IfOk-weaker}
use Rattle.dm_machine.specs.declared.connection.Conn.{Conn}
use Rattle.dm_node.specs.Policies.{MakesNoneFor}
use Rattle.dm_node.specs.Strangers.{IsForbidden}
use Rattle.dm_node.proofs.Welcomed.{permits, forbids, forbids_none, if_none}
use Rattle.dm_node.proofs.offered_config.offered_config.Goals as goal

pub returns-then-count-most-clause-offered : goal.returns-then-count-most-clause-offered
returns-then-count-most-clause-offered g c =
    let policy = g.S.Strangers.policy c.args.strangers.now in
    let ps = c.args.neighbours.now in
    IfOk-weaker c.config_by_template.result _ _
    (λ o h. permits policy ps c.args.octets.now (c.in-Some.field-0-0, c.in-Some.host.now) o c.in-Some.ensures.found
    (omega (arith, c.count.ensures, c.most.ensures, c.if-count-most.true)) h)
    c.config_by_template.ensures.made

pub returns-then-count-most-clause-none : goal.returns-then-count-most-clause-none
returns-then-count-most-clause-none g c =
    let policy = g.S.Strangers.policy c.args.strangers.now in
    let ps = c.args.neighbours.now in
    IfOk-weaker c.config_by_template.result _ _
    (λ o h. if_none (MakesNoneFor policy c.in-Some.host.now) ((d : Conn) → IsForbidden policy ps d c.args.octets.now) o
    (λ none. forbids policy ps c.args.octets.now (c.in-Some.field-0-0, c.in-Some.host.now) c.in-Some.ensures.found
    (inr none)) h)
    c.config_by_template.ensures.none

pub returns-else-count-most-clause-none : goal.returns-else-count-most-clause-none
returns-else-count-most-clause-none g c =
    let policy = g.S.Strangers.policy c.args.strangers.now in
    let ps = c.args.neighbours.now in
    forbids policy ps c.args.octets.now (c.in-Some.field-0-0, c.in-Some.host.now) c.in-Some.ensures.found
    (inl (omega (arith, c.count.ensures, c.most.ensures, c.if-count-most.false)))

pub returns-in-None-clause-none : goal.returns-in-None-clause-none
returns-in-None-clause-none g c =
    forbids_none (g.S.Strangers.policy c.args.strangers.now) c.args.neighbours.now c.args.octets.now
    c.in-None.ensures.none
