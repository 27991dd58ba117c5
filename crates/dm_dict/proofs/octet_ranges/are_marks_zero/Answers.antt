use Rattle.std.proofs.Common.{◌≤◌, ◌%◌, ◌^◌, ◌∙◌, ap, arith, length, ltb, map, nat_eq, w8}
use Rattle.std.proofs.lemmas.List.{length-map}
use Rattle.std.proofs.lemmas.Simd.{mask_l-mod, tops_compared, zip2_splat_left}
use Rattle.std.proofs.Math.ListN.{replicate}
use Rattle.std.specs.Simd.Lanes.{mask_l}
use Rattle.dm_dict.proofs.Lanes.{no_bits}
use Rattle.dm_dict.proofs.octet_ranges.are_marks_zero.Goals as goal

pub returns : goal.returns
returns c =
    let marks = c.args.marks in
    let long = c.fits-marks.0 in
    let few : length (map (λ m. ltb 0 m) marks) ≤ 64 = omega (arith, length-map marks (λ m. ltb 0 m), long) in
    ap (λ ms. nat_eq (mask_l ms % 2 ^ 64) 0) (tops_compared w8 ltb (replicate 16 0) marks ∙ zip2_splat_left ltb 0 16 marks long)
    ∙ ap (λ m. nat_eq m 0) (mask_l-mod (map (λ m. ltb 0 m) marks) 64 few) ∙ no_bits marks
