-- The table has the digits of each octet.
use Rattle.std.proofs.Common.{◌≡◌, ℕ, ◌<◌, [], map, slice_index_or, refl, ap, ◌∙◌, arith}
use Rattle.std.proofs.lemmas.List.FromFn.{get_or-map-range_with_len}
use Rattle.std.specs.List.{range_with_len}
use Rattle.dm_text.specs.Hexadecimal.{digit_pair}
use Rattle.dm_text.specs.declared.digit.TheConstants.{PAIRS}
use Rattle.dm_text.proofs.digit.hex_digits_of.Goals as goal

table_is : PAIRS ≡ map digit_pair (range_with_len 0 256)
table_is = refl

read : (b : ℕ) → b < 256 → slice_index_or PAIRS b [] ≡ digit_pair b
read b h =
    ap (λ t. slice_index_or t b []) table_is ∙ get_or-map-range_with_len digit_pair 0 256 b b [] h (omega arith)

pub returns : goal.returns
returns c = rw c.from.ensures (read c.args.octet (omega arith))
