-- A Close closes its connection.
use Rattle.std.proofs.Common.{[], ◌∙◌}
use Rattle.dm_slots.specs.Held.{intakes_of, owners_of}
use Rattle.dm_slots.proofs.Steps.{left_close, closed_first}
use Rattle.dm_slots.proofs.slots.Slots.shut_connection_closed_by.Goals as goal

pub returns-in-Close-clause-left : goal.returns-in-Close-clause-left
returns-in-Close-clause-left c =
    rw (c.in-Close.is) (c.shut.ensures.shut ∙ left_close c.in-Close.conn [] (intakes_of c.args.self.now))

pub returns-in-Close-clause-owners : goal.returns-in-Close-clause-owners
returns-in-Close-clause-owners c =
    rw (c.in-Close.is) (c.shut.ensures.owners ∙ closed_first c.in-Close.conn [] (owners_of c.args.self.now))
