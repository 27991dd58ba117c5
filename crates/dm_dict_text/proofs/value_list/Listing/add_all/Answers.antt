use Rattle.std.proofs.Common.{map, [], refl}
use Rattle.std.proofs.lemmas.Result.{err_from_is_err_and}
use Rattle.dm_grammar.specs.Views.{view_value}
use Rattle.dm_dict_text.specs.Faults.{listed_value_faults, with_value}
use Rattle.dm_dict_text.proofs.Along.{along_stops}
use Rattle.dm_dict_text.proofs.value_list.Listing.add_all.Goals as goal

pub returns-in_err-add-clause-fault : goal.returns-in_err-add-clause-fault
returns-in_err-add-clause-fault c =
    let p = err_from_is_err_and c.from_residual.result c.from_residual.ensures.1 in
    rw (p.1, p.2)
    (along_stops listed_value_faults with_value view_value [] c.loop-item.self.values.items (map view_value c.args.items.now)
    c.args.items.now c.loop-item.item-index _ _ c.in_err-add.field-0.0 c.loop-item-test.true refl
    c.loop-item.invariant.along c.in_err-add.ensures.fault)
