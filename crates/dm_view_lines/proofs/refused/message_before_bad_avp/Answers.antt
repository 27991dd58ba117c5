use Rattle.std.proofs.Common.{◌≡◌, [], is_some, take, ap}
use Rattle.std.specs.Prelude.{unwrap_or}
use Rattle.std.proofs.lemmas.List.{take_rest}
use Rattle.dm_view_lines.specs.Before.{avps_before}
use Rattle.dm_view_lines.proofs.refused.message_before_bad_avp.Goals as goal

pub invariant_of-result : goal.invariant_of-result
invariant_of-result c =
    let front = take c.args.offset c.args.octets.now in
    let found = c.spelled_avps_are_members.ensures _ c.requires.bad.before.0 c.requires.bad.before.1 in
    record { framed = rw (take_rest front 20) (ap is_some found) }

pub returns-clause-avps : goal.returns-clause-avps
returns-clause-avps c =
    let s = c.args.octets.now in
    let o = c.args.offset in
    let l = c.requires.bad.before.0 in
    let found = c.spelled_avps_are_members.ensures _ l c.requires.bad.before.1 in
    let same : avps_before s o ≡ l = ap (λ m. unwrap_or m []) found in
    rw (same, take_rest (take o s) 20) c.requires.bad.before.1
