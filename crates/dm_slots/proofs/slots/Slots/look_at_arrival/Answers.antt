-- What is looked at is the connection.
use Rattle.std.proofs.Common.{option_map, ap}
use Rattle.dm_slots.specs.Held.{intakes_of}
use Rattle.dm_slots.specs.declared.slots.Slot.{Slot}
use Rattle.dm_slots.proofs.slots.Slots.look_at_arrival.Goals as goal

pub returns-in-Some-clause-none : goal.returns-in-Some-clause-none
returns-in-Some-clause-none c =
    c.arrival.ensures.none (intakes_of c.args.self.now c.args.conn.0) c.in-Some.ensures.intake

pub returns-in-Some-search-clause-none : goal.returns-in-Some-search-clause-none
returns-in-Some-search-clause-none c =
    c.arrival-arrival.ensures.none (intakes_of c.args.self.now c.args.conn.0)
    (ap (option_map (λ (s : Slot). s.intake)) c.in-Some-search.ensures)
