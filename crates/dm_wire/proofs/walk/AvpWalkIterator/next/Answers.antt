-- A call passes the first AVP of what is left, or stays where none begins.
use Rattle.std.proofs.Common.{◌<◌, rules, refl, sym, length, take}
use Rattle.std.proofs.lemmas.List.{take-append-drop, take_rest, length-take-le}
use Rattle.dm_wire.proofs.walk.AvpWalkIterator.next.Goals as goal

pub returns-in_default-clause-steps : goal.returns-in_default-clause-steps
returns-in_default-clause-steps c =
    let some : 0 < length c.self.inside.left.now = search rules in
    rw (← c.self.view_is)
    (record { going = c.if-self.false; some = some; bad = c.in_default.ensures.none; offset = refl; stays = refl })

pub returns-clause-steps : goal.returns-clause-steps
returns-clause-steps c =
    let s = c.self.inside.left.now in
    let n = c.in-Some.size in
    let found = c.in-Some.ensures.found in
    rw (← c.self.view_is) (record {
      going = c.if-self.false;
      first = take n s;
      whole = rw (take_rest s n) (sym (take-append-drop n s));
      spelled = found;
      further = rw (length-take-le n s c.in-Some.ensures.within) refl;
      goes_on = c.if-self.false;
    })
