-- One entry after the other.
use Rattle.std.proofs.Common.{◌≡◌, ◌<◌, ◌≤◌, ◌+◌, ◌∙◌, length, get_or, sym, refl, ap, arith}
use Rattle.std.proofs.lemmas.List.{drop_all, get_or_default}
use Rattle.dm_dict.specs.Faults.{entry_faults}
use Rattle.dm_dict.proofs.Chains.{good_element}
use Rattle.dm_dict.proofs.entries.each_counter_shows_entry_good.Goals as goal

pub loop-at-preserved : goal.loop-at-preserved
loop-at-preserved c = λ avps l counted.
    let rule = c.args.rule.now in
    let at = c.loop-at.at in
    let size = ap length c.as_slice-entry-items.ensures in
    let room = c.requires.room in
    let within : at < length rule = omega arith in
    let from_zero : 0 + at ≡ at = omega arith in
    good_element (entry_faults avps rule l) rule _ at within (c.loop-at.invariant avps l counted)
    (λ e is.
    let entry = c.entry-item.result in
    let here : entry ≡ get_or rule at entry = rw c.as_slice-entry-items.ensures at c.entry-item.is in
    let same : e ≡ entry = is ∙ get_or_default rule at e entry within ∙ sym here in
    let counter = counted at entry (omega arith) (rw from_zero within) (rw from_zero here) in
    rw same (c.counter_shows_entry_good.ensures avps rule l counter c.if-not-counter_shows_entry_good.false))

pub returns : goal.returns
returns c = λ avps l counted kept.
    let rule = c.args.rule.now in
    let size = ap length c.as_slice-entry-items.ensures in
    let past : length rule ≤ c.loop-at.at = omega arith in
    sym (c.loop-at.invariant avps l counted ∙ (rw (drop_all c.loop-at.at rule past) refl))
