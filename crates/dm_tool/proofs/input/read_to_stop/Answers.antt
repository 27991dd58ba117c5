use Rattle.std.proofs.Common.{◌+◌, ◌++◌, ◌≤◌, ℕ, vec_len, take, arith, length-append, length-take, ap, ◌∙◌, sym}
use Rattle.std.proofs.Common.{subst, Vec, Global}
use Rattle.std.proofs.lemmas.Bool.{true≢false}
use Rattle.std.specs.Io.KnownBytes.{Consumes}
use Rattle.std.proofs.KnownBytes.{Consumes-trans, Consumes-kept}
use Rattle.dm_tool.specs.Limits.{input_limit}
use Rattle.dm_tool.proofs.Known.{Consumes-more}
use Rattle.dm_tool.proofs.input.read_to_stop.Goals as goal
use Rattle.dm_tool.proofs.input.read_to_stop.Goals.{in-Ok+in_ok-extend_from_slice-in-Ok+else-len-gt-INPUT_LIMIT, in-Err+else-ne}

pub returns-in_err-extend_from_slice-in-Ok-clause-taken : goal.returns-in_err-extend_from_slice-in-Ok-clause-taken
returns-in_err-extend_from_slice-in-Ok-clause-taken g c = (
  c.loop-turn.input.items ++ take c.in-Ok.count c.read_some.new.room,
  simp (length-append, length-take) (omega (arith, c.in-Ok.ensures.bound.0, simp length-take at c.read_some.auto.room)),
  Consumes-trans _ _ _ _ _ c.loop-turn.invariant.1 c.in-Ok.ensures.bytes.0,
)

pub loop-turn-preserved : goal.loop-turn-preserved
loop-turn-preserved g c = elim c.match-read_some.branch [
  | in-Ok+in_ok-extend_from_slice-in-Ok+else-len-gt-INPUT_LIMIT w ↦
      let P : Vec ℕ Global → Type 0 = λ v. vec_len v ≤ input_limit in (
        subst P (sym w.input-is) (omega (arith, w.len-in-Ok.ensures, w.if-len-gt-INPUT_LIMIT.false)),
        Consumes-more _ _ _ _ _ _ _ w.in-Ok.count w.in-Ok.ensures.bound.0 c.loop-turn.invariant.1 w.in-Ok.ensures.bytes.0
            (ap (λ v. v.items) w.input-is ∙ w.in_ok-extend_from_slice-in-Ok.ensures.items),
        λ steady.
            let Q : Vec ℕ Global → Type 0 = λ v. c.loop-turn._turn + 1 ≤ vec_len v in
            let before = c.loop-turn.invariant.2 steady in
            let size = simp (length-take, length-append) at w.in_ok-extend_from_slice-in-Ok.ensures.len in
            subst Q (sym w.input-is) (omega (arith, before, size, w.in-Ok.ensures.bound.0, w.in-Ok.count-test)),
      )
  | in-Err+else-ne w ↦
      let P : Vec ℕ Global → Type 0 = λ v. (vec_len v ≤ input_limit) × Consumes (g.S.Source.left c.args.reader.now)
      (g.S.Source.left c.read_some.new.self) v.items in
      let read = Consumes-kept _ _ _ _ c.loop-turn.invariant.1 w.in-Err.ensures.bytes in
      let kept = subst P (sym w.input-is) (c.loop-turn.invariant.0, read) in
      (kept.0, kept.1, λ steady. absurd (true≢false (sym steady ∙ w.in-Err.ensures.failed)))
]
