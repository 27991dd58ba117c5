-- Octets concern whom they are addressed to.
use Rattle.std.proofs.Common.{ℕ, IfSome, IfNone, sym, subst}
use Rattle.dm_node.specs.Telling.{Concerns}
use Rattle.dm_node.specs.declared.events.NodeEvent.{NodeEvent}
use Rattle.dm_node.proofs.concerned_neighbour.concerned_neighbour.Goals as goal

pub returns-in-Arrived-clause-concerned : goal.returns-in-Arrived-clause-concerned
returns-in-Arrived-clause-concerned g c =
    let policy = g.S.Strangers.policy c.args.strangers.now in
    subst (λ (e : NodeEvent). IfSome c.neighbour_for_arrived_octets.result (Concerns policy c.args.neighbours.now e))
    (sym c.in-Arrived.is) c.neighbour_for_arrived_octets.ensures.found

pub returns-in-Arrived-clause-nobody : goal.returns-in-Arrived-clause-nobody
returns-in-Arrived-clause-nobody g c =
    let policy = g.S.Strangers.policy c.args.strangers.now in
    subst (λ (e : NodeEvent). IfNone c.neighbour_for_arrived_octets.result
    ((i : ℕ) → Concerns policy c.args.neighbours.now e i → ⊥)) (sym c.in-Arrived.is) c.neighbour_for_arrived_octets.ensures.none
