-- The owner of a connection holds it.
use Rattle.dm_slots.specs.Held.{owners_of}
use Rattle.dm_node.proofs.Owned.{owner_there, owner_holds, unowned_free}
use Rattle.dm_node.proofs.concerned_neighbour.holding_neighbour.Goals as goal

pub returns-clause-there : goal.returns-clause-there
returns-clause-there c =
    owner_there c.args.neighbours.now (owners_of c.args.slots.now) c.args.conn c.owner.result c.owner.ensures
    c.requires

pub returns-clause-found : goal.returns-clause-found
returns-clause-found c =
    owner_holds c.args.neighbours.now (owners_of c.args.slots.now) c.args.conn c.owner.result c.owner.ensures
    c.requires

pub returns-clause-none : goal.returns-clause-none
returns-clause-none c =
    unowned_free c.args.neighbours.now (owners_of c.args.slots.now) c.args.conn c.owner.result c.owner.ensures
    c.requires
