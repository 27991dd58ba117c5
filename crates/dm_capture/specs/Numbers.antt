-- Numbers in either order of octets.
use Rattle.std.specs.Prelude.{ℕ, List}
use Rattle.byteorder.specs.Endian.{big_number, little_number}
use Rattle.dm_capture.specs.declared.order.Order.{Order}
use Rattle.dm_capture.specs.declared.order.Order.TheVariants.{Big, Little}

-- the number that the first n octets of s are
abbrev pub ordered_number : Order → ℕ → List ℕ → ℕ
ordered_number Big n s = big_number n s
ordered_number Little n s = little_number n s
