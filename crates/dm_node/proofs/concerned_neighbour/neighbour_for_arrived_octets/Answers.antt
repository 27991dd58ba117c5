-- Who holds a connection holds it alone.
use Rattle.std.proofs.Common.{◌≡◌, true, sym, subst}
use Rattle.dm_node.specs.Holding.{holds_at}
use Rattle.dm_node.proofs.Basics.{one_some}
use Rattle.dm_node.proofs.Welcomed.{at_some}
use Rattle.dm_node.proofs.concerned_neighbour.neighbour_for_arrived_octets.Goals as goal

pub returns-in-Some-clause-alone : goal.returns-in-Some-clause-alone
returns-in-Some-clause-alone g c = λ j d names held.
    let ps = c.args.neighbours.now in
    c.neighbours_are_apart_and_sound.ensures.apart.apart.one j c.in-Some.index c.args.conn
    (subst (λ x. holds_at ps x j ≡ true) (sym (one_some c.args.conn d names)) held)
    (at_some (λ i. holds_at ps c.args.conn i ≡ true) c.args.holder c.in-Some.index c.in-Some.is c.requires.found)
