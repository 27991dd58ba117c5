-- Whose the event is, is told it; else it is a stranger's.
use Rattle.dm_node.specs.Telling.{Concerns}
use Rattle.dm_node.proofs.Ruling.{one_goes, none_goes}
use Rattle.dm_node.proofs.Welcomed.{at_some, at_none, both_done, told_so}
use Rattle.dm_node.proofs.telling.tell_one_or_handle_stranger.Goals as goal

pub returns-in-Some-clause-refused : goal.returns-in-Some-clause-refused
returns-in-Some-clause-refused g c =
    let policy = g.S.Strangers.policy c.args.strangers.now in
    c.tell_one_neighbour.ensures.refused policy
    (at_some (Concerns policy c.args.neighbours.now c.args.event) c.args.who c.in-Some.index c.in-Some.is
    c.requires.whose.concerned)

pub returns-in-Some-clause-rules : goal.returns-in-Some-clause-rules
returns-in-Some-clause-rules g c =
    let policy = g.S.Strangers.policy c.args.strangers.now in
    let ps = c.args.neighbours.now in
    let concerned = at_some (Concerns policy ps c.args.event) c.args.who c.in-Some.index c.in-Some.is
    c.requires.whose.concerned in
    one_goes policy ps c.args.event c.args.who c.in-Some.index c.tell_one_neighbour.result c.neighbours_are_apart_and_sound.ensures.apart
    c.in-Some.is c.requires.whose.concerned c.tell_one_neighbour.ensures.refuses
    (c.tell_one_neighbour.ensures.ruled policy concerned)

pub returns-in-None-clause-rules : goal.returns-in-None-clause-rules
returns-in-None-clause-rules g c =
    none_goes _ (g.S.Strangers.policy c.args.strangers.now) c.args.neighbours.now c.args.event c.handle_stranger_event.result
    (at_none _ c.args.who c.in-None.is c.requires.whose.nobody) c.handle_stranger_event.ensures.memory

pub returns-in-Some-clause-told : goal.returns-in-Some-clause-told
returns-in-Some-clause-told g c =
    let ps = c.args.neighbours.now in
    let policy = g.S.Strangers.policy c.args.strangers.now in
    let answer = c.tell_one_neighbour.new.answer in
    let concerned = at_some (Concerns policy ps c.args.event) c.args.who c.in-Some.index c.in-Some.is
    c.requires.whose.concerned in
    both_done c.tell_one_neighbour.result
    (told_so policy c.args.event c.args.own.now ps c.tell_one_neighbour.new.neighbours c.in-Some.index answer.neighbour
    answer.actions.items concerned)
    c.tell_one_neighbour.ensures.neighbour c.tell_one_neighbour.ensures.told
