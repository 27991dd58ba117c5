-- One entry after the other.
use Rattle.std.proofs.Common.{◌≡◌, ◌<◌, ◌+◌, ◌-◌, length, arith, ap}
use Rattle.dm_dict.specs.Faults.{entry_faults}
use Rattle.dm_dict.proofs.Chains.{bad_element, good_element}
use Rattle.dm_dict.proofs.windows.judge_window.Goals as goal

pub returns-in-Bad-clause-fault : goal.returns-in-Bad-clause-fault
returns-in-Bad-clause-fault c = λ l h counted.
    let F = entry_faults c.args.tables.now.avps.items c.args.rule.entries.now l in
    let at = c.loop-at.at in
    let size = ap length c.as_slice.ensures in
    let within : at < length c.args.rule.entries.now = omega arith in
    let behind : c.args.from + (at - c.args.from) ≡ at = omega arith in
    bad_element F c.args.rule.entries.now _ at _ within (c.loop-at.invariant l h counted)
    (λ e is. c.in-Bad.ensures.fault l e h is (counted (at - c.args.from) e (omega arith) (rw behind within) (rw behind is)))

pub loop-at-preserved : goal.loop-at-preserved
loop-at-preserved c = λ l h counted.
    let F = entry_faults c.args.tables.now.avps.items c.args.rule.entries.now l in
    let at = c.loop-at.at in
    let size = ap length c.as_slice.ensures in
    let within : at < length c.args.rule.entries.now = omega arith in
    let behind : c.args.from + (at - c.args.from) ≡ at = omega arith in
    good_element F c.args.rule.entries.now _ at within (c.loop-at.invariant l h counted)
    (λ e is. c.in-Good.ensures.fault l e h is (counted (at - c.args.from) e (omega arith) (rw behind within) (rw behind is)))
