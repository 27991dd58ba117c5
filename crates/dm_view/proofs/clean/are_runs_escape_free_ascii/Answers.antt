use Rattle.std.proofs.Common.{◌≡◌, ◌*◌, ◌+◌, subst, arith}
use Rattle.dm_view.specs.Clean.{CleanBetween}
use Rattle.dm_view.proofs.CleanOctets.{clean_joined}
use Rattle.dm_view.proofs.clean.are_runs_escape_free_ascii.Goals as goal

pub runs-init : goal.runs-init
runs-init c = λ k from below. absurd (omega (arith, below))

pub runs-preserved : goal.runs-preserved
runs-preserved c =
    let least = c.args.least in
    let octets = c.args.octets.now in
    let k = c.runs.k in
    let next : 16 * k + 16 ≡ 16 * (k + 1) = omega arith in
    subst (CleanBetween least octets 0) next (clean_joined least octets (16 * k) (16 * k) (16 * k + 16) (omega arith)
    c.runs.invariant (c.are_sixteen_escape_free_ascii.ensures c.if-not-are_sixteen_escape_free_ascii.false))
