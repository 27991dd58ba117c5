-- One AVP more is numbered, where a path wants it.
use Rattle.std.proofs.Common.{◌≡◌, ◌+◌, true, true≢false, sym, ◌∙◌, ap}
use Rattle.dm_wire.specs.Borrowed.{avp_of}
use Rattle.std.specs.Option.{option_copied}
use Rattle.dm_dict.specs.Numbers.{is_wanted}
use Rattle.dm_dict.specs.Rules.{definition}
use Rattle.dm_dict.proofs.Listed.{under_ok, both_ok, once_ok}
use Rattle.dm_dict.proofs.Numbered.{unwanted, wanted_one, number_fits}
use Rattle.dm_dict.proofs.occurrences.count_group_occurrence.Goals as goal

pub returns-then-is_group_at-clause-nth : goal.returns-then-is_group_at-clause-nth
returns-then-is_group_at-clause-nth c =
    let avps = c.args.dictionary.now.tables.avps.items in
    under_ok c.increment_code_and_vendor_count.result _ _
    (λ nth next p fits numbered wanted.
    next (number_fits (option_copied c.args.path) avps p (avp_of c.args.avp) _ 18446744073709551616 fits wanted numbered)
    ∙ ap (λ n. n + 1) (numbered (avp_of c.args.avp) wanted))
    c.increment_code_and_vendor_count.ensures.nth

pub returns-then-is_group_at-clause-counted : goal.returns-then-is_group_at-clause-counted
returns-then-is_group_at-clause-counted c =
    let avps = c.args.dictionary.now.tables.avps.items in
    let path = option_copied c.args.path in
    let wanted : is_wanted path (definition avps (avp_of c.args.avp)) ≡ true
    = rw (c.in-Some.is, ← c.requires.def) (sym (c.is_group_at.ensures c.in-Some.field-0.now) ∙ c.if-is_group_at.true) in
    once_ok c.increment_code_and_vendor_count.result _
    (λ nth known p fits numbered.
    wanted_one path avps p (avp_of c.args.avp) c.args.numbers.now.entries c.increment_code_and_vendor_count.new.numbers.entries nth
    (known.0 (number_fits path avps p (avp_of c.args.avp) _ 18446744073709551616 fits wanted numbered))
    known.1 numbered)
    (both_ok c.increment_code_and_vendor_count.result _ _ c.increment_code_and_vendor_count.ensures.nth c.increment_code_and_vendor_count.ensures.counted)

pub returns-clause-nth : goal.returns-clause-nth
returns-clause-nth c = λ p fits numbered wanted.
    absurd (true≢false (sym wanted ∙ rw (c.in-Some.is, ← c.requires.def) (sym (c.is_group_at.ensures c.in-Some.field-0.now) ∙ c.if-is_group_at.false)))

pub returns-clause-counted : goal.returns-clause-counted
returns-clause-counted c = λ p fits numbered.
    unwanted _ c.args.dictionary.now.tables.avps.items p (avp_of c.args.avp) _
    (rw (c.in-Some.is, ← c.requires.def) (sym (c.is_group_at.ensures c.in-Some.field-0.now) ∙ c.if-is_group_at.false)) numbered
