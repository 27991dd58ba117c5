-- A message that is whole is the last of those that wait.
use Rattle.std.proofs.Common.{Some, refl}
use Rattle.dm_associations.proofs.way.SctpWay.take_chunk.Goals as goal

pub returns-in-Some-clause-taken : goal.returns-in-Some-clause-taken
returns-in-Some-clause-taken c =
    let takes = rw c.in-Some.is at c.in_ok-message.ensures.message in
    rw (← c.self.view_is) (record {
      found = Some c.in-Some.message.items;
      takes = takes;
      others = rw (c.push_back_reserved.ensures.items, c.reserve.ensures.items, c.new.ensures) refl;
    })
