-- Each half is a place in the table, and what stands there is its digit.
use Rattle.std.proofs.Common.{◌∙◌, ◌/◌, refl, arith}
use Rattle.std.proofs.lemmas.Simd.{zip2_splat}
use Rattle.dm_text.specs.Hexadecimal.{high_digit}
use Rattle.dm_text.specs.declared.lanes.TheConstants.{DIGITS}
use Rattle.dm_text.proofs.Lookups.{down, highs_ok, looked_up}
use Rattle.dm_text.proofs.Splats.{same_of_octets}
use Rattle.dm_text.proofs.lanes.high_digits.Goals as goal

pub swizzle : goal.swizzle
swizzle c = highs_ok c.args.octets c.fits-octets

pub returns : goal.returns
returns c =
    let octets = c.args.octets in
    looked_up DIGITS (λ x. x / 16) octets _ c.fits-octets (zip2_splat down octets 16 4 c.fits-octets.0) (λ x h. omega (arith, h))
    ∙ same_of_octets _ high_digit refl octets c.fits-octets.1
