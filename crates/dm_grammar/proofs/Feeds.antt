-- Line feeds that are counted sixteen octets at a time.
use Rattle.std.proofs.Common.{◌≡◌, ◌≤◌, ◌+◌, ◌^◌, ◌%◌, ◌∙◌, ℕ, List, cond, nat_eq, length, take, drop, map, replicate, ap, sym, arith, w8}
use Rattle.std.proofs.Math.Seq.{take-add}
use Rattle.std.proofs.lemmas.List.{take-append-drop}
use Rattle.std.proofs.lemmas.List.Sums.{count_by-le-length, sum_by-append}
use Rattle.std.proofs.lemmas.Simd.{bitmask_splat, length-chunk, ones-mask_l}
use Rattle.std.specs.Int.RustNames.{count_ones}
use Rattle.std.specs.List.{count_by}
use Rattle.std.specs.Simd.Lanes.{chunk, mask_l, top, zip2}
use Rattle.dm_grammar.specs.Symbols.{is_line_feed}

-- those of one run more
pub feeds_of_run : (text : List ℕ) (i next count : ℕ) → next ≡ i + 16 → next ≤ length text
    → count ≡ count_by is_line_feed (take i text) → count ≤ i
    → let run = chunk i 16 text in
    let ones = count_ones (mask_l (map (top 7) (zip2 (λ a b. cond (nat_eq a b) 255 0) run (replicate 16 10))) % 2 ^ 64) in
    (count + ones ≡ count_by is_line_feed (take next text)) × (count + ones ≤ next)
feeds_of_run text i next count is within counted few =
    let run = chunk i 16 text in
    let long = length-chunk i 16 text (omega (arith, is, within)) in
    let ones = ap count_ones (bitmask_splat w8 nat_eq run 16 10 long (omega arith)) ∙ ones-mask_l is_line_feed run in
    let most = count_by-le-length is_line_feed run in
    let all = ap (λ k. count_by is_line_feed (take k text)) is ∙ ap (count_by is_line_feed) (take-add i 16 text)
    ∙ sum_by-append (λ x. cond (is_line_feed x) 1 0) (take i text) run in
    (omega (arith, counted, ones, all), omega (arith, few, ones, most, long, is))

-- those of a front and of the rest
pub feeds_apart : (text : List ℕ) (i : ℕ)
    → count_by is_line_feed (take i text) + count_by is_line_feed (drop i text) ≡ count_by is_line_feed text
feeds_apart text i =
    sym (sum_by-append (λ x. cond (is_line_feed x) 1 0) (take i text) (drop i text))
    ∙ ap (count_by is_line_feed) (take-append-drop i text)
