-- Of so few AVPs the sum is exact; of more it is too large.
use Rattle.std.proofs.Common.{◌≡◌, ◌%◌, ◌^◌, length, inr, arith}
use Rattle.dm_wire.specs.Canonical.{canonical_list}
use Rattle.dm_wire.proofs.Canonicals.{list_least, list_most}
use Rattle.dm_wire.proofs.size.checked_message_avps_size.Goals as goal

pub returns-then-avps-gt-MAX_AVPS-clause-none : goal.returns-then-avps-gt-MAX_AVPS-clause-none
returns-then-avps-gt-MAX_AVPS-clause-none c =
    inr (omega (arith, list_least c.args.avps.now, c.if-avps-gt-MAX_AVPS.true))

pub returns-clause-size : goal.returns-clause-size
returns-clause-size c =
    let l = c.args.avps.now in
    let most = list_most l (canonical_list l) c.in_ok-rest.ensures.spelled in
    let is : c.in_ok-rest.rest ≡ length (canonical_list l) % 2 ^ 64 = c.in_ok-rest.ensures.some in
    omega (arith, most, is, c.if-avps-gt-MAX_AVPS.false)
