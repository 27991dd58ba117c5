use Rattle.std.proofs.Common.{List, Option, Err, inl, inr, sym, ap, subst}
use Rattle.dm_peer.specs.declared.peer.Peer.{Peer}
use Rattle.dm_peer.specs.Events.{PeerEvent, event_told}
use Rattle.dm_node.specs.Declining.{IsRuledOut}
use Rattle.dm_node.specs.Telling.{told_of, IsRefusedBy}
use Rattle.dm_node.specs.declared.fault.OrderFault.TheVariants as faults
use Rattle.dm_node.proofs.Basics.{not_done, same_fault}
use Rattle.dm_node.proofs.one_told.tell_one_neighbour.Goals as goal

pub invariant_of-neighbours : goal.invariant_of-neighbours
invariant_of-neighbours c = c.tell_peer_at-done.ensures.roster _ _ c.neighbours.invariant

pub returns-in-Ok-clause-refuses : goal.returns-in-Ok-clause-refuses
returns-in-Ok-clause-refuses c = λ f out.
    not_done _ f c.tell_peer_at-done.result c.in-Ok.is
    (c.tell_peer_at-done.ensures.refuses f
    (subst (λ (l : List (Option Peer)). IsRuledOut l c.args.index (event_told c.peer_event-told.result) f) (sym c.neighbours.view_is)
    (subst (λ (e : PeerEvent). IsRuledOut c.args.neighbours.now c.args.index e f) (sym c.peer_event-told.ensures) out)))

pub returns-in-Err-clause-refuses : goal.returns-in-Err-clause-refuses
returns-in-Err-clause-refuses c = λ f out.
    ap (λ g. Err (faults.Peer g)) (same_fault c.in-Err.fault f c.tell_peer_at-done.result c.in-Err.is
    (c.tell_peer_at-done.ensures.refuses f
    (subst (λ (l : List (Option Peer)). IsRuledOut l c.args.index (event_told c.peer_event-told.result) f) (sym c.neighbours.view_is)
    (subst (λ (e : PeerEvent). IsRuledOut c.args.neighbours.now c.args.index e f) (sym c.peer_event-told.ensures) out))))

pub returns-in-Err-clause-refused : goal.returns-in-Err-clause-refused
returns-in-Err-clause-refused c = λ policy concerned.
    inl (
      c.args.index,
      concerned,
      subst (λ (l : List (Option Peer)). IsRefusedBy l c.args.index (told_of c.args.event) c.in-Err.fault) c.neighbours.view_is
          (subst (λ (e : PeerEvent). IsRefusedBy c.neighbours.inside.peers.items c.args.index e c.in-Err.fault)
          c.peer_event-told.ensures c.in-Err.ensures.refused),
    )

pub returns-in-Err-clause-ruled : goal.returns-in-Err-clause-ruled
returns-in-Err-clause-ruled c = λ policy concerned.
    elim c.in-Err.ensures.ruled [
      | inl memory ↦ inl memory
      | inr out ↦ inr (
        c.args.index,
        concerned,
        subst (λ (l : List (Option Peer)). IsRuledOut l c.args.index (told_of c.args.event) c.in-Err.fault) c.neighbours.view_is
            (subst (λ (e : PeerEvent). IsRuledOut c.neighbours.inside.peers.items c.args.index e c.in-Err.fault)
            c.peer_event-told.ensures out),
      )
    ]
