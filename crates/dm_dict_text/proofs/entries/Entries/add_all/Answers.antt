use Rattle.std.proofs.Common.{map, [], refl}
use Rattle.std.proofs.lemmas.Result.{err_from_is_err_and}
use Rattle.dm_grammar.specs.Views.{view_entry}
use Rattle.dm_dict_text.specs.Faults.{rule_entry_faults, with_entry}
use Rattle.dm_dict_text.proofs.Along.{along_stops}
use Rattle.dm_dict_text.proofs.entries.Entries.add_all.Goals as goal

pub returns-in_err-add-clause-fault : goal.returns-in_err-add-clause-fault
returns-in_err-add-clause-fault c =
    let p = err_from_is_err_and c.from_residual.result c.from_residual.ensures.1 in
    rw (p.1, p.2)
    (along_stops rule_entry_faults with_entry view_entry [] c.loop-item.self.entries.items
    (map view_entry c.args.items.now) c.args.items.now c.loop-item.item-index _ _ c.in_err-add.field-0.0
    c.loop-item-test.true refl c.loop-item.invariant.along c.in_err-add.ensures.fault)
