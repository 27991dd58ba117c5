use Rattle.std.proofs.Common.{◌++◌, ap, ◌∙◌, sym}
use Rattle.std.proofs.lemmas.List.{take_rest}
use Rattle.std.proofs.KnownBytes.{Appends-kept}
use Rattle.dm_io.proofs.Known.{Appends-more}
use Rattle.dm_io.proofs.written.write_all_octets.Goals as goal
use Rattle.dm_io.proofs.written.write_all_octets.Goals.{in-Ok, in-Err+else-ne}

pub loop-preserved : goal.loop-preserved
loop-preserved g c = elim c.match-write.branch [
  | in-Ok w ↦ Appends-more _ _ _ _ _ c.loop.rest.now _ w.in-Ok.count c.loop.invariant.1 c.loop.invariant.2
      w.in-Ok.ensures.bytes
      (ap (λ r. r.now) w.rest-is ∙ take_rest c.loop.rest.now w.in-Ok.count)
  | in-Err+else-ne w ↦ (
    c.loop.invariant.0,
    c.loop.invariant.1 ∙ ap (λ r. c.loop.invariant.0 ++ r.now) (sym w.rest-is),
    Appends-kept _ _ _ _ c.loop.invariant.2 w.in-Err.ensures.bytes,
  )
]
