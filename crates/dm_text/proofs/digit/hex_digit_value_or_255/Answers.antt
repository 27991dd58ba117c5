-- The table has the value of each octet.
use Rattle.std.proofs.Common.{◌≡◌, ℕ, ◌<◌, map, slice_index, refl, ap, ◌∙◌, arith}
use Rattle.std.proofs.lemmas.List.FromFn.{get_or-map-range_with_len}
use Rattle.std.specs.List.{range_with_len}
use Rattle.dm_text.specs.Hexadecimal.{digit_worth}
use Rattle.dm_text.specs.declared.digit.TheConstants.{WORTHS}
use Rattle.dm_text.proofs.digit.hex_digit_value_or_255.Goals as goal

table_is : WORTHS ≡ map digit_worth (range_with_len 0 256)
table_is = refl

read : (b : ℕ) → b < 256 → slice_index WORTHS b ≡ digit_worth b
read b h = ap (λ t. slice_index t b) table_is ∙ get_or-map-range_with_len digit_worth 0 256 b b 0 h (omega arith)

pub returns : goal.returns
returns c = rw c.from.ensures (read c.args.octet (omega arith))
