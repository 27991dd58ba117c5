use Rattle.std.proofs.Common.{◌≡◌, ◌+◌, ◌-◌, length, subst, arith}
use Rattle.dm_view.specs.Clean.{CleanBetween}
use Rattle.dm_view.proofs.CleanOctets.{clean_joined}
use Rattle.dm_view.proofs.clean.are_escape_free_ascii_by_eights.Goals as goal

pub returns : goal.returns
returns c =
    let least = c.args.least in
    let octets = c.args.octets.now in
    let last = length octets - 8 in
    let end : last + 8 ≡ length octets = omega arith in
    λ is.
    subst (CleanBetween least octets 0) end (clean_joined least octets last 8 (last + 8) (omega arith)
    (c.are_eight_escape_free_ascii-2.ensures is) (c.are_eight_escape_free_ascii.ensures c.if-not-are_eight_escape_free_ascii.false))
