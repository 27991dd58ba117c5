-- Each lane is computed from its octet, and what is computed tells of each octet whether it may end a word.
use Rattle.std.proofs.Common.{◌+◌, ◌-◌, ◌∙◌, ◌%◌, ◌^◌, ℕ, cond, ap, ltb, map, nat_lt, refl}
use Rattle.std.proofs.lemmas.Simd.{map-map, splat_is_map, zip2_of_maps, zip2_splat}
use Rattle.dm_view_lines.specs.OneWord.{ends_digits}
use Rattle.dm_view_lines.proofs.OneWords.{bits_of_maps, chosen, told_of_octets, with_itself}
use Rattle.dm_view_lines.proofs.one_word.word_end_marks.Goals as goal

abbrev sum : ℕ → ℕ → ℕ
sum a b = (a + b) % 2 ^ 8

abbrev less : ℕ → ℕ → ℕ
less a b = (a + (2 ^ 8 - b)) % 2 ^ 8

abbrev moved : ℕ → ℕ
moved c = sum c 198

abbrev number : ℕ → ℕ
number c = less (cond (ltb (moved c) 118) 118 (moved c)) 118

abbrev mark : ℕ → ℕ
mark c = cond (ltb (number c) (sum c c)) (sum c c) (number c)

pub returns : goal.returns
returns c =
    let octets = c.args.octets in
    let (long, fits) = c.fits-octets in
    let least = splat_is_map {Y = ℕ} octets 16 118 long in
    let moves = zip2_splat sum octets 16 198 long in
    let are_few = bits_of_maps moved _ octets moves least in
    let raised = chosen _ _ _ octets are_few least moves in
    let numbers = zip2_of_maps less _ _ octets raised least in
    let doubles = with_itself sum octets in
    let are_lower = bits_of_maps number _ octets numbers doubles in
    ap (map (λ m. nat_lt m 128)) (chosen _ _ _ octets are_lower doubles numbers)
    ∙ map-map (λ m. nat_lt m 128) mark octets ∙ told_of_octets (λ c. nat_lt (mark c) 128) ends_digits refl octets fits
