use Rattle.std.proofs.Common.{◌∙◌, nat_eq, ltb, ap, sym, arith, w8}
use Rattle.std.proofs.lemmas.Bool.{eqb-true}
use Rattle.std.proofs.lemmas.Simd.{bitmask_splat}
use Rattle.dm_view_lines.specs.OneWord.{low_marks}
use Rattle.dm_view_lines.proofs.one_word.are_marks_high.Goals as goal

pub returns : goal.returns
returns c = λ high.
    eqb-true (low_marks c.args.marks) 0
    (sym (ap (λ m. nat_eq m 0) (bitmask_splat w8 ltb c.args.marks 16 128 c.fits-marks.0 (omega arith))) ∙ high)
