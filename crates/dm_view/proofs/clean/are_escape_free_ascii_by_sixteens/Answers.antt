use Rattle.std.proofs.Common.{◌≡◌, ◌*◌, ◌+◌, ◌-◌, ◌/◌, length, subst, arith}
use Rattle.dm_view.specs.Clean.{CleanBetween}
use Rattle.dm_view.proofs.CleanOctets.{clean_joined}
use Rattle.dm_view.proofs.clean.are_escape_free_ascii_by_sixteens.Goals as goal

pub returns : goal.returns
returns c =
    let least = c.args.least in
    let octets = c.args.octets.now in
    let last = length octets - 16 in
    let end : last + 16 ≡ length octets = omega arith in
    λ is.
    subst (CleanBetween least octets 0) end (clean_joined least octets last (16 * ((length octets - 1) / 16))
    (last + 16) (omega arith) (c.are_runs_escape_free_ascii.ensures is)
    (c.are_sixteen_escape_free_ascii.ensures c.if-not-are_sixteen_escape_free_ascii.false))
