-- The new peer takes no connection but that of the octets, and joins or stays out.
use Rattle.std.proofs.Common.{◌≡◌, false, refl, sym, subst, ◌∙◌}
use Rattle.dm_peer.specs.Acts.{Moved, acts}
use Rattle.dm_peer.specs.Events.{Arrived}
use Rattle.dm_peer.specs.declared.peer.Peer.{Peer}
use Rattle.dm_node.specs.Holding.{holds_at}
use Rattle.dm_node.proofs.Growing.{made, fresh_holds}
use Rattle.dm_node.proofs.NodeStaying.{by_number}
use Rattle.dm_node.proofs.Taking.{first_on}
use Rattle.dm_node.proofs.Welcomed.{is_taken}
use Rattle.dm_node.proofs.newcomer.tell_and_add_newcomer.Goals as goal

pub push_peer-requires : goal.push_peer-requires
push_peer-requires c = λ d j held.
    subst (λ x. holds_at c.args.neighbours.now x j ≡ false)
    (sym (by_number c.args.conn d (first_on c.done_events_are_steps_or_drops.ensures
    c.given_up_is_closed_unnamed_stays_unheld.ensures.alone c.new-peer.result c.on.new.self c.args.conn d
    c.args.octets.now c.in-Ok.actions.items c.state-state.ensures.shaped c.in-Ok.ensures.acts
    (fresh_holds c.new-peer.result _ d c.new-peer.ensures.standing) held))) (c.requires j)

pub returns-in-Closed-clause-left : goal.returns-in-Closed-clause-left
returns-in-Closed-clause-left c = record {
  after = c.on.new.self;
  acted = subst (λ (x : Peer). acts x (Arrived c.args.conn c.args.octets.now) ≡ Moved c.in-Ok.actions.items c.on.new.self)
      (made c.new-peer.result c.args.config c.new-peer.ensures.config c.new-peer.ensures.standing) c.in-Ok.ensures.acts;
  closed = sym c.state.ensures.value ∙ c.in-Closed.is;
  same = refl;
}

pub returns-in-Ok-push_peer-clause-taken : goal.returns-in-Ok-push_peer-clause-taken
returns-in-Ok-push_peer-clause-taken c =
    is_taken _ _ _ c.args.conn c.args.octets.now _ c.args.config c.on.new.self c.in-Ok-push_peer.ensures.number
    c.in-Ok-push_peer.ensures.added (λ closed. c.in_default.not-Closed (c.state.ensures.value ∙ closed))
    (subst (λ (x : Peer). acts x (Arrived c.args.conn c.args.octets.now) ≡ Moved c.in-Ok.actions.items c.on.new.self)
    (made c.new-peer.result c.args.config c.new-peer.ensures.config c.new-peer.ensures.standing) c.in-Ok.ensures.acts)
