-- Each lane is computed from its digit, and what is computed tells the digit's value at each octet.
use Rattle.std.proofs.Common.{◌∙◌, ap, ltb, map, refl, w8}
use Rattle.std.proofs.lemmas.Simd.{map-map, splat_is_map, tops_compared, zip2_of_maps, zip2_splat}
use Rattle.dm_text.specs.Hexadecimal.{digit_worth}
use Rattle.dm_text.specs.SideBySide.{worth_of_mark}
use Rattle.dm_text.proofs.Splats.{chosen, same_of_octets}
use Rattle.dm_text.proofs.lanes.digit_marks.Goals as goal

pub returns : goal.returns
returns c =
    let digits = c.args.digits in
    let (long, fits) = c.fits-digits in
    let six = splat_is_map digits 16 6 long in
    let moved = zip2_splat _ digits 16 198 long in
    let are_few = tops_compared w8 ltb _ _ ∙ zip2_of_maps ltb _ _ digits moved six in
    let numbers = zip2_of_maps _ _ _ digits (chosen _ _ _ digits are_few six moved) six in
    let before = zip2_splat _ digits 16 1 long in
    let upper = zip2_of_maps _ _ _ digits before (splat_is_map digits 16 223 long) in
    let letters = zip2_of_maps _ _ _ digits upper (splat_is_map digits 16 186 long) in
    let are_letters = tops_compared w8 ltb _ _ ∙ zip2_of_maps ltb _ _ digits numbers letters in
    ap (map worth_of_mark) (chosen _ _ _ digits are_letters letters numbers)
    ∙ map-map worth_of_mark _ digits ∙ same_of_octets _ digit_worth refl digits fits
