use Rattle.std.proofs.Common.{◌∙◌, sym}
use Rattle.dm_grammar.specs.Views.{view_item}
use Rattle.dm_dict_text.specs.Making.{making}
use Rattle.dm_dict_text.proofs.Earlier.{is_none, next_fault, next_left, next_theirs, next_step}
use Rattle.dm_dict_text.proofs.unknown.first_unknown_in_items.Goals as goal

pub returns-then-is_some : goal.returns-then-is_some
returns-then-is_some c =
    next_fault (making c.args.tables.now c.args.strays.now) c.args.tables.now.vendors.items.items view_item
    c.args.items.now
    c.loop-item.item-index c.loop-item.seen _ c.item-item.result c.first_unknown_in_item-fault.result _
    c.loop-item-test.true c.item-item.is c.loop-item.invariant.left c.first_unknown_in_item-fault.ensures
    (sym c.is_some.ensures ∙ c.if-is_some.true)

pub vendor_count_after_item-seen-requires : goal.vendor_count_after_item-seen-requires
vendor_count_after_item-seen-requires c =
    let step = next_step (making c.args.tables.now c.args.strays.now) c.args.tables.now.vendors.items.items view_item
    c.args.items.now
    c.loop-item.item-index c.loop-item.seen _ c.item-item.result c.loop-item-test.true c.item-item.is
    c.loop-item.invariant.within c.loop-item.invariant.theirs in
    rw (c.as_slice.ensures.value) step.1

pub loop-item-preserved : goal.loop-item-preserved
loop-item-preserved c =
    let all = making c.args.tables.now c.args.strays.now in
    let vendors = c.args.tables.now.vendors.items.items in
    let step = next_step all vendors view_item c.args.items.now
    c.loop-item.item-index c.loop-item.seen _ c.item-item.result c.loop-item-test.true c.item-item.is
    c.loop-item.invariant.within c.loop-item.invariant.theirs in
    let none = is_none c.first_unknown_in_item-fault.result (sym c.is_some.ensures ∙ c.if-is_some.false) in
    rw (c.vendor_count_after_item-seen.ensures)
    (record {
      within = step.1;
      theirs = next_theirs all vendors view_item c.args.items.now c.loop-item.item-index c.loop-item.seen _ _
          c.item-item.result c.loop-item-test.true c.item-item.is c.loop-item.invariant.theirs step.0;
      left = next_left all vendors view_item c.args.items.now c.loop-item.item-index c.loop-item.seen _ _
          c.item-item.result _ c.loop-item-test.true c.item-item.is c.loop-item.invariant.left
          (sym none ∙ c.first_unknown_in_item-fault.ensures) step.0;
    })
