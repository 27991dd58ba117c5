-- A bad AVP of the rest, by its offset in the whole.
use Rattle.std.proofs.Common.{◌≤◌, length}
use Rattle.std.proofs.lemmas.List.{take_rest}
use Rattle.dm_wire.proofs.Reading.{headed, bad_behind}
use Rattle.dm_wire.proofs.message_ref.read_message_ref.Goals as goal

pub returns-in-Err-clause-fault : goal.returns-in-Err-clause-fault
returns-in-Err-clause-fault c =
    let s = c.args.octets.now in
    let long : 20 ≤ length s = c.in_ok-header.ensures.long in
    let right = headed c.in_ok-header.header s long c.in_ok-header.ensures.found
    (λ o. let e = c.in_ok-header.ensures.len.1 o in cc) in
    let bad = rw (take_rest s 20) at c.in-Err.ensures.bad in
    (right.0, right.1, right.2, bad_behind 20 s c.in-Err.offset long bad)
