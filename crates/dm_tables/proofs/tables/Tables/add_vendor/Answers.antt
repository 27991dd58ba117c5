use Rattle.std.proofs.Common.{[], ◌∷◌, ◌++◌}
use Rattle.dm_tables.specs.Tables.{defined}
use Rattle.dm_tables.specs.Sound.{is_sound_vendor}
use Rattle.dm_tables.proofs.Places.{on_both}
use Rattle.dm_tables.proofs.Members.{each_after-append}
use Rattle.dm_tables.specs.SoundParts.{vendor_sound_parts, sound_parts, all_sound}
use Rattle.dm_tables.proofs.tables.Tables.add_vendor.Goals as goal

pub add-requires-clause-name : goal.add-requires-clause-name
add-requires-clause-name c =
    (vendor_sound_parts c.args.self.now.vendors.items.items c.args.vendor c.requires.sound).new_name

pub add-requires-clause-number : goal.add-requires-clause-number
add-requires-clause-number c =
    (vendor_sound_parts c.args.self.now.vendors.items.items c.args.vendor c.requires.sound).new_number

pub returns-clause-tables : goal.returns-clause-tables
returns-clause-tables c =
    let vendors = c.args.self.now.vendors.items.items in
    let had = c.requires.tables.indexed in
    let sound = sound_parts (defined c.args.self.now) c.requires.tables.sound in
    on_both c.add.result (λ added indexed. record {
      indexed =
          record { vendors = indexed; names = had.names; codes = had.codes; titles = had.titles; heads = had.heads };
      sound = rw added
          (all_sound (vendors ++ c.args.vendor ∷ []) c.args.self.now.avps.items c.args.self.now.commands.items
          (each_after-append is_sound_vendor [] vendors c.args.vendor sound.vendors c.requires.sound) sound.avps
          sound.commands);
    }) c.add.ensures.added c.add.ensures.indexed
