-- Octets are a stranger's, who is taken in, stays out, or is turned off; and any other event does nothing.
use Rattle.std.proofs.Common.{ℕ, None, IsSome, refl, sym, subst}
use Rattle.dm_machine.specs.declared.connection.Conn.{Conn}
use Rattle.dm_node.specs.Strangers.{IsForbidden, NodeIsTold}
use Rattle.dm_node.specs.Telling.{Concerns, IsStrangeCer}
use Rattle.dm_node.specs.declared.events.NodeEvent.{NodeEvent}
use Rattle.dm_node.proofs.Newcomers.{stranger_free}
use Rattle.dm_node.proofs.Taking.{if_err}
use Rattle.dm_node.proofs.Welcomed.{PermitsAnywhere, at_some, at_none, both_done, welcomed, turned_off, nothing_told}
use Rattle.dm_node.proofs.stranger_events.handle_stranger_event.Goals as goal

pub tell_and_add_newcomer-requires : goal.tell_and_add_newcomer-requires
tell_and_add_newcomer-requires g c =
    let policy = g.S.Strangers.policy c.args.strangers.now in
    let ps = c.args.neighbours.now in
    stranger_free policy ps c.in-Arrived.conn c.in-Arrived.octets.now
    (subst (λ (e : NodeEvent). (i : ℕ) → Concerns policy ps e i → ⊥) c.in-Arrived.is c.requires)

pub returns-in-Ok-Some-clause-told : goal.returns-in-Ok-Some-clause-told
returns-in-Ok-Some-clause-told g c =
    let policy = g.S.Strangers.policy c.args.strangers.now in
    let ps = c.args.neighbours.now in
    let n = c.args.own.now in
    let qs = c.tell_and_add_newcomer.new.neighbours in
    let answer = c.tell_and_add_newcomer.new.answer in
    let octets = c.in-Arrived.octets.now in
    let nobody = subst (λ (e : NodeEvent). (i : ℕ) → Concerns policy ps e i → ⊥) c.in-Arrived.is c.requires in
    let permitted = at_some (PermitsAnywhere policy ps octets) c.in-Ok-Some.field-0 c.in-Ok-Some.config
    c.in-Ok-Some.field-0-is c.in-Ok-Some.ensures.offered c.in-Arrived.conn nobody in
    both_done c.tell_and_add_newcomer.result
    (λ joins out. subst (λ (e : NodeEvent). NodeIsTold policy e n ps answer.neighbour answer.actions.items qs)
    (sym c.in-Arrived.is)
    (welcomed policy c.in-Arrived.conn octets n ps qs answer.neighbour answer.actions.items c.in-Ok-Some.config nobody
    permitted joins out)) c.tell_and_add_newcomer.ensures.taken c.tell_and_add_newcomer.ensures.left

pub returns-in-Ok-Some-clause-memory : goal.returns-in-Ok-Some-clause-memory
returns-in-Ok-Some-clause-memory g c =
    let policy = g.S.Strangers.policy c.args.strangers.now in
    let ps = c.args.neighbours.now in
    let nobody = subst (λ (e : NodeEvent). (i : ℕ) → Concerns policy ps e i → ⊥) c.in-Arrived.is c.requires in
    let permitted = at_some (PermitsAnywhere policy ps c.in-Arrived.octets.now) c.in-Ok-Some.field-0
    c.in-Ok-Some.config c.in-Ok-Some.field-0-is c.in-Ok-Some.ensures.offered c.in-Arrived.conn nobody in
    if_err c.tell_and_add_newcomer.result
    (λ f memory. (
      memory,
      subst (λ (e : NodeEvent). IsStrangeCer e) (sym c.in-Arrived.is)
          (subst IsSome (sym permitted.unknown.calls) refl),
    )) c.tell_and_add_newcomer.ensures.memory

pub returns-in-Ok-clause-told : goal.returns-in-Ok-clause-told
returns-in-Ok-clause-told g c =
    let policy = g.S.Strangers.policy c.args.strangers.now in
    let ps = c.args.neighbours.now in
    let n = c.args.own.now in
    let nobody = subst (λ (e : NodeEvent). (i : ℕ) → Concerns policy ps e i → ⊥) c.in-Arrived.is c.requires in
    let forbidden = at_none ((d : Conn) → IsForbidden policy ps d c.in-Arrived.octets.now) c.in-Ok-None.field-0
    c.in-Ok-None.field-0-is c.in-Ok-None.ensures.none in
    subst (λ (e : NodeEvent). NodeIsTold policy e n ps None c.in-Ok.actions.items ps) (sym c.in-Arrived.is)
    (turned_off policy c.in-Arrived.conn c.in-Arrived.octets.now n ps None c.in-Ok.actions.items nobody
    (forbidden c.in-Arrived.conn) refl c.in-Ok.ensures.answer)

pub returns-in_default-clause-told : goal.returns-in_default-clause-told
returns-in_default-clause-told g c =
    nothing_told (g.S.Strangers.policy c.args.strangers.now) c.args.event c.args.own.now c.args.neighbours.now
    c.new.result.items c.new.ensures c.in_default.not-Arrived c.requires
