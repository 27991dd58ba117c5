-- Where no host calls and there is no porter the octets are for nobody.
use Rattle.std.proofs.Common.{ℕ}
use Rattle.dm_node.specs.Telling.{IsPorter, IsFirstFor}
use Rattle.dm_node.proofs.Concerned.{for_nobody}
use Rattle.dm_node.proofs.Welcomed.{if_none}
use Rattle.dm_node.proofs.concerned_neighbour.calling_neighbour_or_porter.Goals as goal

pub returns-in-None-clause-none : goal.returns-in-None-clause-none
returns-in-None-clause-none g c =
    let policy = g.S.Strangers.policy c.args.strangers.now in
    let ps = c.args.neighbours.now in
    if_none ((i : ℕ) → IsPorter policy ps i → ⊥) ((i : ℕ) → IsFirstFor policy ps c.args.octets.now i → ⊥)
    c.porter_if_there.result (for_nobody policy ps c.args.octets.now c.in-None.ensures.none) c.porter_if_there.ensures.none
