-- Each lane is computed from its octet, and what is computed tells of each octet whether it ends a word.
use Rattle.std.proofs.Common.{◌≤◌, ◌+◌, ◌-◌, ◌∙◌, ◌%◌, ◌^◌, ℕ, bit_or, bit_xor, cond, length, ap, ltb, map, not, refl, arith}
use Rattle.std.proofs.lemmas.List.{length-map}
use Rattle.std.proofs.lemmas.Simd.{mask_l-mod, splat_is_map, zip2_of_maps, zip2_splat}
use Rattle.std.specs.Simd.Lanes.{mask_l}
use Rattle.dm_grammar.specs.Symbols.{goes_on}
use Rattle.dm_grammar.proofs.WordRuns.{bits_of_maps, chosen, told_of_octets}
use Rattle.dm_grammar.proofs.lex.non_word_octet_bitmask.Goals as goal

abbrev less : ℕ → ℕ → ℕ
less a b = (a + (2 ^ 8 - b)) % 2 ^ 8

abbrev number : ℕ → ℕ
number c = less c 48

abbrev letter : ℕ → ℕ
letter c = less (bit_or c 32) 97

abbrev other : ℕ → ℕ
other c = cond (ltb (letter c) 26) 0 (bit_xor c 45)

abbrev all : ℕ → ℕ
all c = cond (ltb (number c) 10) 0 (other c)

pub returns : goal.returns
returns c =
    let octets = c.args.octets in
    let (long, fits) = c.fits-octets in
    let few : length (map (λ c. not (goes_on c)) octets) ≤ 64 =
    omega (arith, length-map octets (λ c. not (goes_on c)), long) in
    let zeros = splat_is_map {Y = ℕ} octets 16 0 long in
    let numbers = zip2_splat less octets 16 48 long in
    let are_numbers = bits_of_maps number _ octets numbers (splat_is_map {Y = ℕ} octets 16 10 long) in
    let lower = zip2_splat bit_or octets 16 32 long in
    let letters = zip2_of_maps less (λ c. bit_or c 32) _ octets lower (splat_is_map {Y = ℕ} octets 16 97 long) in
    let are_letters = bits_of_maps letter _ octets letters (splat_is_map {Y = ℕ} octets 16 26 long) in
    let others = chosen _ _ _ octets are_letters zeros (zip2_splat bit_xor octets 16 45 long) in
    let alls = chosen _ _ _ octets are_numbers zeros others in
    let ends = bits_of_maps _ all octets zeros alls in
    ap (λ ms. mask_l ms % 2 ^ 64) (ends ∙ told_of_octets (λ c. ltb 0 (all c)) (λ c. not (goes_on c)) refl octets fits)
    ∙ mask_l-mod (map (λ c. not (goes_on c)) octets) 64 few
