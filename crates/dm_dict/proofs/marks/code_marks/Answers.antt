-- One definition more.
use Rattle.std.proofs.Common.{◌<◌, ◌%◌, ◌∙◌, get_or}
use Rattle.std.proofs.lemmas.List.{length-set, take_all}
use Rattle.dm_dict.proofs.Marked.{marked_step, some_mark}
use Rattle.dm_dict.proofs.marks.code_marks.Goals as goal

pub loop-place-preserved : goal.loop-place-preserved
loop-place-preserved c =
    let marks = c.loop-place.marks in
    let mark = c.mark_keeping_first.result in
    let avp = c.index-avps-place.result in
    let some : 0 < mark = rw c.mark_keeping_first.ensures (some_mark (get_or marks (avp.code % 512) 0) c.loop-place.place) in (
      length-set marks _ mark ∙ c.loop-place.invariant.0,
      marked_step c.args.avps.now c.loop-place.place avp avp marks mark c.loop-place-test.true
          c.index-avps-place.is c.loop-place.invariant.0 some c.loop-place.invariant.1,
    )

pub returns : goal.returns
returns c = λ code vendor unmarked.
    rw (take_all c.loop-place.place c.args.avps.now c.loop-place-test.false) at (c.loop-place.invariant.1 code vendor
    unmarked)
