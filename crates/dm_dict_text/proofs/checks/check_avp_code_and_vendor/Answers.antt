use Rattle.std.proofs.Common.{refl}
use Rattle.dm_grammar.specs.Views.{view_word, view_reference_option}
use Rattle.dm_dict_text.specs.Meaning.{number}
use Rattle.dm_tables.specs.Tables.{defined}
use Rattle.dm_dict_text.specs.Faults.{reference_faults}
use Rattle.dm_dict_text.proofs.Along.{first_right, none_both}
use Rattle.dm_tables.specs.SoundParts.{sound_parts}
use Rattle.dm_dict_text.proofs.VendorLimit.{vendor_above}
use Rattle.dm_dict_text.proofs.checks.check_avp_code_and_vendor.Goals as goal

pub returns-in-Err-clause-fault : goal.returns-in-Err-clause-fault
returns-in-Err-clause-fault c =
    let free = vendor_above (number (view_word c.args.code)) c.args.tables.now.vendors.items.items
    (view_reference_option c.args.vendor) c.args.tables.now.avps.items c.in-Err.fault
    (sound_parts (defined c.args.tables.now) c.requires.sound).avps c.in-Err.ensures.fault in
    first_right _ (reference_faults (view_reference_option c.args.vendor)) c.in-Err.fault
    (none_both _ _ c.in_ok-code.ensures.good (rw free refl)) c.in-Err.ensures.fault
