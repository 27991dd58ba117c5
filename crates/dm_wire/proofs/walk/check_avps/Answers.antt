-- What was passed when the walk ends.
use Rattle.std.proofs.Common.{◌++◌, ◌∷◌, []}
use Rattle.dm_wire.specs.Borrowed.{avp_of}
use Rattle.dm_wire.proofs.Numbers.{fit-octets}
use Rattle.dm_wire.proofs.Reading.{some_members, no_members}
use Rattle.dm_wire.proofs.Walking.{passed_more, passed_stop, passed_all}
use Rattle.dm_wire.proofs.walk.check_avps.Goals as goal

pub loop-read-preserved : goal.loop-read-preserved
loop-read-preserved c =
    let k = c.loop-read.invariant.0 in
    let a = avp_of c.in-Ok.field-0 in
    let step = rw (c.in-Ok.is) at c.in-Some.ensures.steps in (
      k ++ a ∷ [],
      passed_more c.args.octets.now k c.loop-read.read-iterator c.next.new.self a c.loop-read.invariant.1
          step,
    )

pub returns-in-Err-clause-bad : goal.returns-in-Err-clause-bad
returns-in-Err-clause-bad c =
    let step = rw (c.in-Err.is) at c.in-Some.ensures.steps in
    (passed_stop c.args.octets.now c.loop-read.invariant.0 c.loop-read.read-iterator c.next.new.self c.in-Err.offset
    c.loop-read.invariant.1 step).0

pub returns-in-Err-clause-none : goal.returns-in-Err-clause-none
returns-in-Err-clause-none c =
    let s = c.args.octets.now in
    let step = rw (c.in-Err.is) at c.in-Some.ensures.steps in
    no_members s c.in-Err.offset (fit-octets s c.type_inv.octets)
    (passed_stop s c.loop-read.invariant.0 c.loop-read.read-iterator c.next.new.self c.in-Err.offset
    c.loop-read.invariant.1 step).0

pub returns-clause-list : goal.returns-clause-list
returns-clause-list c =
    let k = c.loop-read.invariant.0 in
    (k, passed_all c.args.octets.now k c.loop-read.read-iterator c.loop-read.invariant.1 (c.in-None.ensures.steps).0)

pub returns-clause-some : goal.returns-clause-some
returns-clause-some c =
    let s = c.args.octets.now in
    let k = c.loop-read.invariant.0 in
    some_members s k (fit-octets s c.type_inv.octets)
    (passed_all s k c.loop-read.read-iterator c.loop-read.invariant.1 (c.in-None.ensures.steps).0)
