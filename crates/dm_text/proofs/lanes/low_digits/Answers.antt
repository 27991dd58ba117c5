-- Each half is a place in the table, and what stands there is its digit.
use Rattle.std.proofs.Common.{◌∙◌, bit_and, refl, arith}
use Rattle.std.proofs.lemmas.Nat.{and_le_r}
use Rattle.std.proofs.lemmas.Simd.{zip2_splat}
use Rattle.dm_text.specs.Hexadecimal.{low_digit}
use Rattle.dm_text.specs.declared.lanes.TheConstants.{DIGITS}
use Rattle.dm_text.proofs.Lookups.{lows_ok, looked_up}
use Rattle.dm_text.proofs.Splats.{same_of_octets}
use Rattle.dm_text.proofs.lanes.low_digits.Goals as goal

pub swizzle : goal.swizzle
swizzle c = lows_ok c.args.octets c.fits-octets

pub returns : goal.returns
returns c =
    let octets = c.args.octets in
    looked_up DIGITS (λ x. bit_and x 15) octets _ c.fits-octets (zip2_splat bit_and octets 16 15 c.fits-octets.0) (λ x h. omega (arith, and_le_r x 15))
    ∙ same_of_octets _ low_digit refl octets c.fits-octets.1
