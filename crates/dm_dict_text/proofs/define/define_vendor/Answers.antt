use Rattle.dm_grammar.specs.Views.{view_vendor}
use Rattle.dm_tables.specs.declared.def.VendorDef.{VendorDef}
use Rattle.dm_dict_text.proofs.Soundness.{sound_vendor}
use Rattle.dm_dict_text.proofs.define.define_vendor.Goals as goal

pub add_vendor-requires-clause-sound : goal.add_vendor-requires-clause-sound
add_vendor-requires-clause-sound c =
    let vendor : VendorDef = record { name = c.in_ok-from_slice.field-0; number = c.in_ok-number.number } in
    sound_vendor c.args.tables.now.vendors.items.items vendor (view_vendor c.args.item.now) c.in_ok-from_slice.ensures
    c.in_ok-number.ensures.number c.requires.worded c.in_ok-number.ensures.good
